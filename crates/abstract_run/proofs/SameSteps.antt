-- Two records that agree have the same steps from each fitting state.
use Rattle.std.proofs.Common.{◌≡◌, ◌&&◌, ℕ, zero, suc, ℤ, Bool, true, false, not, List, [], ◌∷◌, length, refl, ap, sym, ◌∙◌, slice_get, flat_map, Option, Some, None, if◌then◌else◌, arith}
use Rattle.std.specs.List.{list_any}
use Rattle.std.specs.Option.{option_map}
use Rattle.tap_base.specs.Faults.{changed_to}
use Rattle.tap_base.specs.Lists.{EachBoth}
use Rattle.tap_base.specs.Option.{◌>>=◌, is_yes, provided}
use Rattle.tap_exec.specs.Running.{Running}
use Rattle.tap_exec.specs.declared.running.TimerState.{TimerState}
use Rattle.byte_meaning.specs.Reading.{heard, heard_by, heard_in, meaning, meaning_among}
use Rattle.abstract_run.specs.declared.label.Label.{Label}
use Rattle.abstract_run.specs.declared.label.Label.TheVariants as label
use Rattle.abstract_run.specs.declared.state.Channel.{Channel}
use Rattle.abstract_run.specs.declared.state.Falling.{Falling}
use Rattle.abstract_run.specs.declared.state.State.{State}
use Rattle.abstract_run.specs.Channels.{all_sent, appended, error_waits}
use Rattle.abstract_run.specs.Enabled.{any_enabled, guard_holds, is_enabled, is_ready}
use Rattle.abstract_run.specs.Fits.{Fits}
use Rattle.abstract_run.specs.Safe.{Agrees, SameAction, SameGuard, SameProcess, SameSteps, receives, tests, timeouts}
use Rattle.tap_exec.specs.Semantics.{ActionSemantics, GuardSemantics, ProcessSemantics, Semantics, action_at}
use Rattle.tap_exec.specs.Execution.{is_empty}
use Rattle.abstract_run.specs.Step.{After, acted, any_pressing, body_run, channel_changed, channels_at, flight_changed, is_live, is_pressing, is_receive, performed, received, settled_step, silent, step_by, timers_at}
use Rattle.abstract_run.proofs.Acted.{acted_at, acted_is, acted_none, is_both, left_by}
use Rattle.abstract_run.proofs.Begins.{Begins, Here, begins, body_run_is, here, start}

-- ---- what stands at one place of both

data Beside {A B : Type 0} (R : A → B → Type 0) (o : Option A) (u : Option B) : Type 0 where
  neither : o ≡ None → u ≡ None → Beside R o u
  both : (x : A) (y : B) → o ≡ Some x → u ≡ Some y → R x y → Beside R o u

beside : {A B : Type 0} (R : A → B → Type 0) (xs : List A) (ys : List B) (k : ℕ) → length xs ≡ length ys → EachBoth R xs ys → Beside R (slice_get xs k) (slice_get ys k)
beside R [] [] k e h = neither refl refl
beside R [] (y ∷ ys) k e h = absurd (omega (arith, e))
beside R (x ∷ xs) [] k e h = absurd (omega (arith, e))
beside R (x ∷ xs) (y ∷ ys) zero e h = both x y refl refl h.0
beside R (x ∷ xs) (y ∷ ys) (suc k) e h = beside R xs ys k (omega (arith, e)) h.1

processes_beside : (one other : Semantics) (p : ℕ) → Agrees one other → Beside (SameProcess other) (slice_get one.processes p) (slice_get other.processes p)
processes_beside one other p agree = beside (SameProcess other) one.processes other.processes p agree.counted agree.processes

-- the actions numbered a of p
data ActionsBeside (one other : Semantics) (p a : ℕ) : Type 0 where
  nowhere : action_at one p a ≡ None → action_at other p a ≡ None → ActionsBeside one other p a
  there : (process : ProcessSemantics) (x y : ActionSemantics) → slice_get other.processes p ≡ Some process → action_at one p a ≡ Some x → action_at other p a ≡ Some y → SameAction other process x y
      → ActionsBeside one other p a

actions_beside : (one other : Semantics) (p a : ℕ) → Agrees one other → ActionsBeside one other p a
actions_beside one other p a agree = by_process (processes_beside one other p agree) where
  by_action : (q r : ProcessSemantics) → slice_get one.processes p ≡ Some q → slice_get other.processes p ≡ Some r → Beside (SameAction other r) (slice_get q.actions a) (slice_get r.actions a)
      → ActionsBeside one other p a
  by_action q r is at (neither h k) = nowhere (rw is h) (rw at k)
  by_action q r is at (both x y h k same) = there r x y at (rw is h) (rw at k) same

  by_process : Beside (SameProcess other) (slice_get one.processes p) (slice_get other.processes p) → ActionsBeside one other p a
  by_process (neither is at) = nowhere (rw is refl) (rw at refl)
  by_process (both q r is at same) = by_action q r is at (beside (SameAction other r) q.actions r.actions a same.counted same.actions)

-- ---- guards

guard_same : (semantics : Semantics) (s : State) (p : ℕ) (process : ProcessSemantics) {g h : GuardSemantics} → Here semantics s p process → SameGuard process g h → guard_holds s p g ≡ guard_holds s p h
guard_same semantics s p process at (tests {f} {g} same) =
    let stored = at.stored in
    let given = at.given in
    let equal : f at.cells at.inputs ≡ g at.cells at.inputs = same at.cells at.inputs at.cells_fit at.inputs_fit in
    rw (stored, given, equal) refl
guard_same semantics s p process at receives = refl
guard_same semantics s p process at timeouts = refl

ready_same : (semantics : Semantics) (s : State) (p : ℕ) (process : ProcessSemantics) (x y : ActionSemantics) → Here semantics s p process → SameAction semantics process x y → is_ready s p x ≡ is_ready s p y
ready_same semantics s p process x y at same = ap is_yes (guard_same semantics s p process at same.guard)

any_same : (semantics : Semantics) (s : State) (p : ℕ) (process : ProcessSemantics) (xs ys : List ActionSemantics) → Here semantics s p process → length xs ≡ length ys
    → EachBoth (SameAction semantics process) xs ys → list_any (is_ready s p) xs ≡ list_any (is_ready s p) ys
any_same semantics s p process [] [] at e h = refl
any_same semantics s p process [] (y ∷ ys) at e h = absurd (omega (arith, e))
any_same semantics s p process (x ∷ xs) [] at e h = absurd (omega (arith, e))
any_same semantics s p process (x ∷ xs) (y ∷ ys) at e h =
    let first = ready_same semantics s p process x y at h.0 in let rest = any_same semantics s p process xs ys at (omega (arith, e)) h.1 in rw (first, rest) refl

pub same_any_enabled : (one other : Semantics) (s : State) (p : ℕ) → Agrees one other → Fits other s → any_enabled one s p ≡ any_enabled other s p
same_any_enabled one other s p agree fits = by_process (processes_beside one other p agree) where
  by_process : Beside (SameProcess other) (slice_get one.processes p) (slice_get other.processes p) → any_enabled one s p ≡ any_enabled other s p
  by_process (neither is at) = rw (is, at) refl
  by_process (both q r is at same) = rw (is, at) (any_same other s p r q.actions r.actions (here other s p r fits at) same.counted same.actions)

pub same_enabled : (one other : Semantics) (s : State) (p a : ℕ) → Agrees one other → Fits other s → is_enabled one s p a ≡ is_enabled other s p a
same_enabled one other s p a agree fits = by_action (actions_beside one other p a agree) where
  by_action : ActionsBeside one other p a → is_enabled one s p a ≡ is_enabled other s p a
  by_action (nowhere h k) = ap (λ o. is_yes (option_map (is_ready s p) o)) (h ∙ sym k)
  by_action (there process x y is h k same) =
      ap (λ o. is_yes (option_map (is_ready s p) o)) h ∙ ready_same other s p process x y (here other s p process fits is) same ∙ ap (λ o. is_yes (option_map (is_ready s p) o)) (sym k)

-- ---- actions

received_same : (s : State) (p : ℕ) (process : ProcessSemantics) {g h : GuardSemantics} → SameGuard process g h → received s p g ≡ received s p h
received_same s p process (tests same) = refl
received_same s p process receives = refl
received_same s p process timeouts = refl

timers_same : (timers : List TimerState) (process : ProcessSemantics) {g h : GuardSemantics} → SameGuard process g h → timers_at g timers ≡ timers_at h timers
timers_same timers process (tests same) = refl
timers_same timers process receives = refl
timers_same timers process timeouts = refl

channels_same : (p : ℕ) (channels : List Channel) (process : ProcessSemantics) {g h : GuardSemantics} → SameGuard process g h → channels_at p g channels ≡ channels_at p h channels
channels_same p channels process (tests same) = refl
channels_same p channels process receives = refl
channels_same p channels process timeouts = refl

body_same : (semantics : Semantics) (s : State) (p : ℕ) (process : ProcessSemantics) (x y : ActionSemantics) (choices : List ℤ) → SameAction semantics process x y
    → Begins semantics s p process y choices → body_run s p x choices ≡ body_run s p y choices
body_same semantics s p process x y choices same b =
    let at = b.at in
    let last : Running → Option Running = λ r. provided (is_empty r.choices) r in
    body_run_is s p x at.cells at.inputs b.values choices at.timers at.stored at.given at.timed (received_same s p process same.guard ∙ b.heard)
    ∙ ap (λ ts. x.body at.inputs b.values (start at.cells ts choices) >>= last) (timers_same at.timers process same.guard)
    ∙ ap (λ o. o >>= last) (same.body at.inputs b.values (start at.cells (timers_at y.guard at.timers) choices) b.beginning)
    ∙ sym (body_run_is s p y at.cells at.inputs b.values choices at.timers at.stored at.given at.timed b.heard)

-- what follows from what the body left, by what the guard takes
abbrev rest_of : State → ℕ → (List Channel → Option (List Channel)) → Running → Option After
rest_of s p take r = do
  taken ← take s.channels
  channels ← all_sent p r.sends taken
  cut ← slice_get s.cuts p
  Some (left_by s p r channels cut, r.sends)

performed_same : (semantics : Semantics) (s : State) (p : ℕ) (process : ProcessSemantics) (x y : ActionSemantics) (choices : List ℤ) → SameAction semantics process x y
    → Begins semantics s p process y choices → performed s p x choices ≡ performed s p y choices
performed_same semantics s p process x y choices same b =
    ap (λ o. o >>= rest_of s p (channels_at p x.guard)) (body_same semantics s p process x y choices same b)
    ∙ under (body_run s p y choices) where
      under : (o : Option Running) → (o >>= rest_of s p (channels_at p x.guard)) ≡ (o >>= rest_of s p (channels_at p y.guard))
      under None = refl
      under (Some r) = let equal = channels_same p s.channels process same.guard in rw equal refl

by_ready : (o : Bool) (x y : Option After) → (o ≡ true → x ≡ y) → (if o then x else None) ≡ (if o then y else None)
by_ready true x y h = h refl
by_ready false x y h = refl

acted_at_same : (semantics : Semantics) (s : State) (p : ℕ) (process : ProcessSemantics) (x y : ActionSemantics) (choices : List ℤ) → Fits semantics s → slice_get semantics.processes p ≡ Some process
    → SameAction semantics process x y → acted_at s p x choices ≡ acted_at s p y choices
acted_at_same semantics s p process x y choices fits is same =
    ap (λ b. if is_live s p && b then performed s p x choices else None) (ready_same semantics s p process x y (here semantics s p process fits is) same)
    ∙ by_ready (is_live s p && is_ready s p y) _ _ (λ test.
    performed_same semantics s p process x y choices same (begins semantics s p process y choices fits is (is_both (is_live s p) (is_ready s p y) test).1))

acted_same : (one other : Semantics) (s : State) (p a : ℕ) (choices : List ℤ) → Agrees one other → Fits other s → acted one s p a choices ≡ acted other s p a choices
acted_same one other s p a choices agree fits = by_action (actions_beside one other p a agree) where
  by_action : ActionsBeside one other p a → acted one s p a choices ≡ acted other s p a choices
  by_action (nowhere h k) = acted_none one s p a choices h ∙ sym (acted_none other s p a choices k)
  by_action (there process x y is h k same) =
      acted_is one s p a choices x h ∙ acted_at_same other s p process x y choices fits is same ∙ sym (acted_is other s p a choices y k)

-- ---- floods

receives_same : (process : ProcessSemantics) {g h : GuardSemantics} → SameGuard process g h → is_receive g ≡ is_receive h
receives_same process (tests same) = refl
receives_same process receives = refl
receives_same process timeouts = refl

any_pressing_same : (semantics : Semantics) (s : State) (p : ℕ) (process : ProcessSemantics) (xs ys : List ActionSemantics) → Here semantics s p process → length xs ≡ length ys
    → EachBoth (SameAction semantics process) xs ys → list_any (is_pressing s p) xs ≡ list_any (is_pressing s p) ys
any_pressing_same semantics s p process [] [] at e h = refl
any_pressing_same semantics s p process [] (y ∷ ys) at e h = absurd (omega (arith, e))
any_pressing_same semantics s p process (x ∷ xs) [] at e h = absurd (omega (arith, e))
any_pressing_same semantics s p process (x ∷ xs) (y ∷ ys) at e h =
    let kind = receives_same process h.0.guard in
    let first = ready_same semantics s p process x y at h.0 in
    let rest = any_pressing_same semantics s p process xs ys at (omega (arith, e)) h.1 in
    rw (kind, first, rest) refl

pub same_any_pressing : (one other : Semantics) (s : State) (p : ℕ) → Agrees one other → Fits other s → any_pressing one s p ≡ any_pressing other s p
same_any_pressing one other s p agree fits = by_process (processes_beside one other p agree) where
  by_process : Beside (SameProcess other) (slice_get one.processes p) (slice_get other.processes p) → any_pressing one s p ≡ any_pressing other s p
  by_process (neither h k) = rw (h, k) refl
  by_process (both q r is at same) =
      let all = any_pressing_same other s p r q.actions r.actions (here other s p r fits at) same.counted same.actions in rw (is, at, all) refl

-- ---- what bytes mean

heard_same : (q : ℕ) (process : ProcessSemantics) {g h : GuardSemantics} → SameGuard process g h → heard_by q g ≡ heard_by q h
heard_same q process (tests same) = refl
heard_same q process receives = refl
heard_same q process timeouts = refl

all_heard_same : (semantics : Semantics) (q : ℕ) (process : ProcessSemantics) (xs ys : List ActionSemantics) → length xs ≡ length ys → EachBoth (SameAction semantics process) xs ys
    → flat_map (λ (a : ActionSemantics). heard_by q a.guard) xs ≡ flat_map (λ (a : ActionSemantics). heard_by q a.guard) ys
all_heard_same semantics q process [] [] e h = refl
all_heard_same semantics q process [] (y ∷ ys) e h = absurd (omega (arith, e))
all_heard_same semantics q process (x ∷ xs) [] e h = absurd (omega (arith, e))
all_heard_same semantics q process (x ∷ xs) (y ∷ ys) e h =
    let first = heard_same q process h.0.guard in let rest = all_heard_same semantics q process xs ys (omega (arith, e)) h.1 in rw (first, rest) refl

same_heard : (one other : Semantics) (q p : ℕ) → Agrees one other → heard one q p ≡ heard other q p
same_heard one other q p agree = by_process (processes_beside one other p agree) where
  by_process : Beside (SameProcess other) (slice_get one.processes p) (slice_get other.processes p) → heard_in q (slice_get one.processes p) ≡ heard_in q (slice_get other.processes p)
  by_process (neither h k) = rw (h, k) refl
  by_process (both x y is at same) = let all = all_heard_same other q y x.actions y.actions same.counted same.actions in rw (is, at) all

-- Two records that agree give bytes one meaning.
pub same_meaning : (one other : Semantics) (q p : ℕ) (bytes : List ℕ) → Agrees one other → meaning one q p bytes ≡ meaning other q p bytes
same_meaning one other q p bytes agree =
    ap (λ ms. meaning_among ms (heard one q p) bytes) agree.messages ∙ ap (λ ns. meaning_among other.messages ns bytes) (same_heard one other q p agree)

-- ---- steps

settled_same : (one other : Semantics) (s : State) (l : Label) → Agrees one other → Fits other s → settled_step one s l ≡ settled_step other s l
settled_same one other s (label.Act p a choices) agree fits = acted_same one other s p a choices agree fits
settled_same one other s (label.Idle p) agree fits =
    ap (λ any. silent (provided (is_live s p && not any && not (error_waits s.channels p)) s)) (same_any_enabled one other s p agree fits)
settled_same one other s (label.Flood p) agree fits = ap (λ any. silent (provided (is_live s p && not any) s)) (same_any_pressing one other s p agree fits)
settled_same one other s (label.Damage q p i bytes) agree fits = ap (λ x. silent (flight_changed (changed_to i x) s q p)) (same_meaning one other q p bytes agree)
settled_same one other s (label.Forge q p bytes) agree fits = ap (λ x. silent (channel_changed (appended x) s q p)) (same_meaning one other q p bytes agree)
settled_same one other s _ agree fits = refl

pub same_steps : SameSteps
same_steps one other s l agree fits = by_falling s.falling where
  by_falling : (o : Option Falling) → step_by one s l o ≡ step_by other s l o
  by_falling None = settled_same one other s l agree fits
  by_falling (Some f) = refl
