-- What an action does whose choices are drawn.
use Rattle.std.proofs.Common.{◌≡◌, ◌+◌, ◌<◌, ◌≤◌, ◌∙◌, ℕ, ℤ, pos, true, List, [], ◌∷◌, ◌++◌, map, take, get_or, length, ap, sym, subst, slice_set, Option, Some, None, arith}
use Rattle.std.specs.Prelude.{FitsSigned}
use Rattle.std.specs.Int.{w64}
use Rattle.std.specs.List.{range_with_len}
use Rattle.std.proofs.lemmas.List.{set-set, take_more}
use Rattle.std.proofs.lemmas.List.FromFn.{map-range_with_len_more}
use Rattle.tap_base.specs.Lists.{Each}
use Rattle.rand_pcg.specs.Lcg.{Lcg}
use Rattle.tap_base.specs.declared.system.System.{System}
use Rattle.tap_exec.specs.declared.running.Outgoing.{Outgoing}
use Rattle.tap_exec.specs.Semantics.{semantics_of}
use Rattle.abstract_run.specs.declared.label.Label.TheVariants as label
use Rattle.abstract_run.specs.declared.state.State.{State}
use Rattle.abstract_run.specs.CellCount.{cells_put, cells_taken}
use Rattle.abstract_run.specs.Enabled.{is_enabled}
use Rattle.abstract_run.specs.Fits.{Fits}
use Rattle.abstract_run.specs.Kept.{Keeps}
use Rattle.abstract_run.specs.Progress.{leads_to}
use Rattle.abstract_run.specs.Step.{After, is_live, step}
use Rattle.abstract_run.specs.inner.ByChoices.{acted_in}
use Rattle.abstract_run.proofs.GoesOn.{room_by}
use Rattle.abstract_run.proofs.Kept.{steps_keep}
use Rattle.drawn_choices.specs.declared.drawing.Drawing.{Drawing}
use Rattle.drawn_choices.specs.Drawing.{drawing, drawing_from, may_end}
use Rattle.drawn_choices.specs.Draws.{AreDrawn, after_words, generator_of, word_from}
use Rattle.exact_choice.specs.Acting.{ActsDrawn}
use Rattle.exact_choice.specs.Runnable.{IsRunnable}
use Rattle.world_run.specs.declared.course.Course.{Course}
use Rattle.world_run.specs.declared.deeds.Deeds.{Deeds}
use Rattle.world_run.specs.Served.{IsCourse, IsSteady}
use Rattle.world_run.specs.inner.Serving.{DidAct, IsTaken, KeepsLabel}
use Rattle.world_run.proofs.OneLabel.{did_one}
use Rattle.world_run.proofs.Recording.{both}

-- the generators of one process more
pub generators_more : (seed n : ℕ) (old new : List Lcg) (g : Lcg) → old ≡ map (generator_of seed) (range_with_len 0 n) → g ≡ generator_of seed n → new ≡ old ++ g ∷ []
    → new ≡ map (generator_of seed) (range_with_len 0 (n + 1))
generators_more seed n old new g were is more =
    more ∙ ap (λ (gs : List Lcg). gs ++ g ∷ []) were ∙ ap (λ (h : Lcg). map (generator_of seed) (range_with_len 0 n) ++ h ∷ []) is
    ∙ sym (map-range_with_len_more (generator_of seed) 0 n n (omega arith))

-- one more that fits
pub each_more : (xs : List ℤ) (k : ℕ) → k < length xs → FitsSigned w64 (get_or xs k (pos 0)) → Each (FitsSigned w64) (take k xs) → Each (FitsSigned w64) (take (k + 1) xs)
each_more xs k there fits h = subst (Each (FitsSigned w64)) (sym (take_more xs k (pos 0) there)) (both (FitsSigned w64) (take k xs) (get_or xs k (pos 0) ∷ []) h (fits, tt))

-- what code does that takes its choices from a generator
abbrev pub does : System → State → ℕ → ℕ → Drawing → Option (After × Drawing)
does system s p a from = acted_in drawing may_end system s p a from

-- an enabled action can draw its choices
pub can_draw : (system : System) (course : Course) (p a : ℕ) (g : Lcg) → IsRunnable system → IsSteady (semantics_of system) course → course.cells ≤ 100000 → is_live course.state p ≡ true
    → is_enabled (semantics_of system) course.state p a ≡ true → ActsDrawn system course.state p a g
can_draw system course p a g runnable steady room up enabled =
    runnable.draws course.state p a g steady.whole.fits steady.settled up (room_by course.state.channels 64 (let cells = steady.whole.cells in omega (arith, cells, room))) enabled

pub never_refused : (system : System) (s : State) (p a : ℕ) (g : Lcg) (from : Drawing) → ActsDrawn system s p a g → from ≡ drawing_from g → does system s p a from ≡ None → ⊥
never_refused system s p a g from x is none = let same = sym x.acts ∙ ap (does system s p a) (sym is) ∙ none in cc

-- The choices that were taken are drawn, and the step is that of the label with them.
pub record Drew (system : System) (s : State) (p a : ℕ) (g : Lcg) (t : State) (sends : List Outgoing) (left : Drawing) : Type 0 where
  pub drawn : AreDrawn (leads_to (semantics_of system) s p a) (word_from g) 0 left.taken
  pub next : left.generator ≡ after_words (length left.taken) g
  pub ran : step (semantics_of system) s (label.Act p a left.taken) ≡ Some (t, sends)

pub drew : (system : System) (s : State) (p a : ℕ) (g : Lcg) (from : Drawing) (t : State) (sends : List Outgoing) (left : Drawing) → ActsDrawn system s p a g → from ≡ drawing_from g
    → does system s p a from ≡ Some ((t, sends), left) → Drew system s p a g t sends left
drew system s p a g from t sends left x is done =
    let some : ◌≡◌ {A = Option (After × Drawing)} (Some (x.after, record { generator = after_words (length x.choices) g; taken = x.choices })) (Some ((t, sends), left)) = sym x.acts ∙ ap (does system s p a) (sym is) ∙ done in
    let both : ◌≡◌ {A = After × Drawing} (x.after, record { generator = after_words (length x.choices) g; taken = x.choices }) ((t, sends), left) = cc in
    let choices : x.choices ≡ left.taken = ap (λ (q : After × Drawing). q.1.taken) both in
    record {
      drawn = subst (AreDrawn (leads_to (semantics_of system) s p a) (word_from g) 0) choices x.drawn;
      next = sym (ap (λ (q : After × Drawing). q.1.generator) both) ∙ ap (λ (cs : List ℤ). after_words (length cs) g) choices;
      ran = subst (λ (cs : List ℤ). step (semantics_of system) s (label.Act p a cs) ≡ Some (t, sends)) choices (x.steps ∙ ap (λ (q : After × Drawing). Some q.0) both);
    }

pub drew_keeps : (system : System) (s : State) (p a : ℕ) (g : Lcg) (t : State) (sends : List Outgoing) (left : Drawing) → IsRunnable system → Fits (semantics_of system) s → Drew system s p a g t sends left
    → Keeps (semantics_of system) (label.Act p a left.taken) s sends t
drew_keeps system s p a g t sends left runnable fits x = steps_keep (semantics_of system) s t (label.Act p a left.taken) sends runnable.safe.keeps fits x.ran

-- it was done, and the generator was put back
pub did_act : (system : System) (old new : Course) (p a : ℕ) (g : Lcg) (between : List Lcg) (sends : List Outgoing) (left : Drawing) (before after : Deeds) → IsRunnable system → IsCourse (semantics_of system) old
    → Drew system old.state p a g new.state sends left → IsTaken old.generators p g between → new.generators ≡ slice_set between p left.generator
    → new.cells + cells_taken (semantics_of system) (label.Act p a left.taken) ≡ old.cells + (cells_put (label.Act p a left.taken) + length sends)
    → KeepsLabel (label.Act p a left.taken) new.state sends before after → Each (FitsSigned w64) left.taken → DidAct (semantics_of system) p a old new before after
did_act system old new p a g between sends left before after runnable whole x taken put counted kept_by sized =
    let kept = drew_keeps system old.state p a g new.state sends left runnable whole.fits x in
    record {
      choices = left.taken;
      drawn = record {
        from = g;
        stood = taken.stood;
        drawn = x.drawn;
        moved = put ∙ ap (λ (gs : List Lcg). slice_set gs p left.generator) taken.left ∙ set-set old.generators p taken.other left.generator ∙ ap (slice_set old.generators p) x.next;
      };
      sized = sized;
      did = did_one (semantics_of system) old new (label.Act p a left.taken) sends before after x.ran kept.fits kept.sent kept.cells whole.cells counted kept_by;
    }
