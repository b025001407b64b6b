-- The cursors of a system, and what a cursor picks among the actions of a process.
use Rattle.std.proofs.Common.{◌≡◌, ◌≢◌, ◌∙◌, ◌<◌, ◌+◌, ◌⊎◌, inl, inr, ℕ, zero, suc, Bool, true, false, List, [], ◌∷◌, ◌++◌, map, length, length-append, slice_get, slice_set, Option, Some, None, IfSome, refl, ap, sym, subst, arith}
use Rattle.std.specs.Option.{option_map}
use Rattle.std.proofs.lemmas.List.{length-map}
use Rattle.std.proofs.lemmas.Option.{slice_get-map, slice_get_within}
use Rattle.tap_base.specs.Option.{◌>>=◌, is_yes}
use Rattle.tap_base.specs.declared.system.Process.{Process}
use Rattle.tap_base.specs.declared.system.System.{System}
use Rattle.tap_base.specs.declared.wire.WireField.{WireField}
use Rattle.tap_base.proofs.ListFacts.{element_alike, element_at, set_same}
use Rattle.abstract_run.specs.declared.label.Label.TheVariants as label
use Rattle.abstract_run.specs.declared.state.State.{State}
use Rattle.abstract_run.specs.Enabled.{is_enabled, is_ready}
use Rattle.tap_exec.specs.Semantics.{ActionSemantics, ProcessSemantics, Semantics, action_at, messages_of, process_semantics, semantics_of}
use Rattle.guard_scheduler.specs.Cursor.{Cursor}
use Rattle.guard_scheduler.specs.Turnstile.{IsTrue, TakesNext}
use Rattle.exact_choice.specs.Choice.{AreCursorsOf, opening_cursors}
use Rattle.exact_choice.proofs.Cursors.{cursors_kept}
use Rattle.world_run.specs.inner.Serving.{AreEnabled, Chose, PicksAt, action_count}

-- ---- a system in its opening state

abbrev pub first_cursor : Process → Cursor
first_cursor process = record { places = length process.actions; at = 0 }

opening_of : (messages : List (List WireField)) (ps : List Process) → map first_cursor ps ≡ map (λ (q : ProcessSemantics). record { places = length q.actions; at = 0 }) (map (process_semantics messages) ps)
opening_of messages [] = refl
opening_of messages (p ∷ ps) =
    let here : first_cursor p ≡ record { places = length (process_semantics messages p).actions; at = 0 } = ap (λ n. record { places = n; at = 0 }) (sym (length-map p.actions _)) in
    ap (λ (c : Cursor). c ∷ map first_cursor ps) here ∙ ap (λ (cs : List Cursor). record { places = length (process_semantics messages p).actions; at = 0 } ∷ cs) (opening_of messages ps)

pub opening_is : (system : System) → map first_cursor system.processes ≡ opening_cursors (semantics_of system)
opening_is system = opening_of (messages_of system) system.processes

-- what a system says of a process that is there
pub said_at : (system : System) (p : ℕ) (process : Process) → slice_get system.processes p ≡ Some process
    → slice_get (semantics_of system).processes p ≡ Some (process_semantics (messages_of system) process)
said_at system p process h = slice_get-map (process_semantics (messages_of system)) system.processes p ∙ ap (option_map (process_semantics (messages_of system))) h

as_many : (system : System) (process : Process) → length (process_semantics (messages_of system) process).actions ≡ length process.actions
as_many system process = length-map process.actions _

-- ---- which actions are enabled

first_of : (xs : List Bool) (b : Bool) (a : ℕ) → a < length xs → slice_get (xs ++ b ∷ []) a ≡ slice_get xs a
first_of [] b a h = absurd (omega (arith, h))
first_of (x ∷ xs) b zero h = refl
first_of (x ∷ xs) b (suc a) h = first_of xs b a (omega (arith, h))

last_of : (xs : List Bool) (b : Bool) → slice_get (xs ++ b ∷ []) (length xs) ≡ Some b
last_of [] b = refl
last_of (x ∷ xs) b = last_of xs b

here_or_before : (a n : ℕ) → a < n + 1 → (a ≡ n) ⊎ (a < n)
here_or_before a n h = grind arith

pub enabled_more : (m : Semantics) (s : State) (p n : ℕ) (xs : List Bool) (b : Bool) → b ≡ is_enabled m s p n → AreEnabled m s p n xs → AreEnabled m s p (n + 1) (xs ++ b ∷ [])
enabled_more m s p n xs b e h = record {
  counted = let many = h.counted in omega (arith, many, length-append xs (b ∷ []));
  told = λ a lt. elim (here_or_before a n lt) [
    | inl same ↦ subst (λ k. slice_get (xs ++ b ∷ []) k ≡ Some (is_enabled m s p k)) (h.counted ∙ sym same)
        (last_of xs b ∙ ap Some (e ∙ ap (is_enabled m s p) (sym h.counted)))
    | inr before ↦ (let many = h.counted in first_of xs b a (omega (arith, before, many))) ∙ h.told a before
  ];
}

-- an action that is enabled is one of the process
enabled_within : (m : Semantics) (s : State) (p a actions : ℕ) (process : ProcessSemantics) → slice_get m.processes p ≡ Some process → length process.actions ≡ actions → is_enabled m s p a ≡ true → a < actions
enabled_within m s p a actions process is many e = by_action (action_at m p a) refl e where
  by_action : (o : Option ActionSemantics) → action_at m p a ≡ o → is_yes (option_map (is_ready s p) o) ≡ true → a < actions
  by_action None at h = cc
  by_action (Some x) at h =
      let there : slice_get process.actions a ≡ Some x = sym (ap (λ (q : Option ProcessSemantics). q >>= λ (r : ProcessSemantics). slice_get r.actions a) is) ∙ at in
      let within = slice_get_within process.actions a x there in omega (arith, within, many)

-- ---- what is picked

module _ (m : Semantics) (s : State) (p actions : ℕ) (enabled : List Bool) (told : AreEnabled m s p actions enabled) (process : ProcessSemantics)
    (is : slice_get m.processes p ≡ Some process) (many : length process.actions ≡ actions) where
  is_true : (a : ℕ) → is_enabled m s p a ≡ true → IsTrue enabled a
  is_true a h = told.told a (enabled_within m s p a actions process is many h) ∙ ap Some h

  was_true : (a : ℕ) → IsTrue enabled a → is_enabled m s p a ≡ true
  was_true a h =
      let within = slice_get_within enabled a true h in
      let counted = told.counted in
      let both : Some (is_enabled m s p a) ≡ Some true = sym (told.told a (omega (arith, within, counted))) ∙ h in cc

  next_act : (old new : Cursor) (a : ℕ) → TakesNext (IsTrue enabled) old a new → TakesNext (λ b. is_enabled m s p b ≡ true) old a new
  next_act old new a x = record { first = record { wanted = was_true a x.first.wanted; first = λ b before h. x.first.first b before (is_true b h) }; moved = x.moved }

  not_true : (b : Bool) → b ≢ true → b ≡ false
  not_true true h = absurd (h refl)
  not_true false h = refl

  picked : (old new : List Cursor) (from : Cursor) (a : ℕ) → slice_get old p ≡ Some from → PicksAt old p enabled (Some a) new → Chose m s p old (Some a) new
  picked old new from a stood x = let y = x from stood in record { from = from; stood = stood; to = y.0; next = next_act from y.0 a y.1; moved = y.2 }

  none_picked : (old new : List Cursor) (from : Cursor) → slice_get old p ≡ Some from → PicksAt old p enabled None new → Chose m s p old None new
  none_picked old new from stood x =
      let y = x from stood in
      (λ b. not_true (is_enabled m s p b) (λ h. y.1.0 b (is_true b h)), y.2 ∙ ap (λ (c : Cursor). slice_set old p c) y.1.1 ∙ set_same old p from stood)

  pub chose : (old new : List Cursor) (from : Cursor) (o : Option ℕ) → slice_get old p ≡ Some from → PicksAt old p enabled o new → Chose m s p old o new
  chose old new from None stood x = none_picked old new from stood x
  chose old new from (Some a) stood x = picked old new from a stood x

-- ---- a process of a system

-- a process that is there, what is told of its actions, and its cursor
record Here (system : System) (s : State) (p : ℕ) (cursors : List Cursor) (enabled : List Bool) : Type 0 where
  process : Process
  is : slice_get system.processes p ≡ Some process
  told : AreEnabled (semantics_of system) s p (length process.actions) enabled
  from : Cursor
  stood : slice_get cursors p ≡ Some from
  places : from.places ≡ length process.actions

abbrev pub AreTold : System → State → ℕ → List Bool → Type 0
AreTold system s p enabled = IfSome (action_count system p) (λ actions. AreEnabled (semantics_of system) s p actions enabled)

here : (system : System) (s : State) (p : ℕ) (cursors : List Cursor) (enabled : List Bool) → AreCursorsOf (semantics_of system) cursors → p < length system.processes → AreTold system s p enabled → Here system s p cursors enabled
here system s p cursors enabled go there told =
    let f = element_at system.processes p there in
    let q = process_semantics (messages_of system) f.0 in
    let x = element_alike (λ (c : Cursor). c.places) (λ (r : ProcessSemantics). length r.actions) cursors (semantics_of system).processes p q go (said_at system p f.0 f.1) in
    record {
      process = f.0;
      is = f.1;
      told = subst (λ o. IfSome (option_map (λ (r : Process). length r.actions) o) (λ n. AreEnabled (semantics_of system) s p n enabled)) f.1 told;
      from = x.0;
      stood = x.1;
      places = x.2 ∙ as_many system f.0;
    }

pub counted_at : (system : System) (s : State) (p : ℕ) (cursors : List Cursor) (enabled : List Bool) → AreCursorsOf (semantics_of system) cursors → p < length system.processes → AreTold system s p enabled
    → (c : Cursor) → slice_get cursors p ≡ Some c → length enabled ≡ c.places
counted_at system s p cursors enabled go there told c is =
    let h = here system s p cursors enabled go there told in
    let same : h.from ≡ c = let both : Some h.from ≡ Some c = sym h.stood ∙ is in cc in
    h.told.counted ∙ sym h.places ∙ ap (λ (d : Cursor). d.places) same

-- what the turnstile of a process picks is its next enabled action
pub chose_at : (system : System) (s : State) (p : ℕ) (old new : List Cursor) (enabled : List Bool) (o : Option ℕ) → AreCursorsOf (semantics_of system) old → p < length system.processes
    → AreTold system s p enabled → PicksAt old p enabled o new → Chose (semantics_of system) s p old o new
chose_at system s p old new enabled o go there told x =
    let h = here system s p old enabled go there told in
    chose (semantics_of system) s p (length h.process.actions) enabled h.told (process_semantics (messages_of system) h.process) (said_at system p h.process h.is) (as_many system h.process) old new h.from o h.stood x

-- and so the cursors are still those of the system
pub cursors_chosen : (m : Semantics) (s : State) (p : ℕ) (old new : List Cursor) (o : Option ℕ) → Chose m s p old o new → AreCursorsOf m old → AreCursorsOf m new
cursors_chosen m s p old new None x go = subst (AreCursorsOf m) (sym x.1) go
cursors_chosen m s p old new (Some a) x go = cursors_kept m ((s, label.Act p a []) ∷ []) old new (new, x, refl) go
