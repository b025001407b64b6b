-- What is tested of an action is what runs ask for.
use Rattle.std.proofs.Common.{◌≡◌, ◌+◌, ◌<◌, ℕ, suc, ℤ, List, [], ◌∷◌, map, replicate, length, ◌⊎◌, inl, inr, refl, ap, sym, subst, ◌∙◌, slice_get, Some, None, arith}
use Rattle.std.proofs.lemmas.Bool.{cases_eq}
use Rattle.std.proofs.lemmas.List.{length-map, length-replicate}
use Rattle.std.proofs.lemmas.Option.{same_Some, slice_get_within}
use Rattle.tap_base.specs.declared.place.Range.{Range}
use Rattle.tap_base.specs.Interval.{IsIn, field_range, from_to}
use Rattle.tap_base.specs.Ranges.{AreAllIn, AreIn}
use Rattle.tap_exec.specs.declared.running.TimerState.TheVariants.{Off}
use Rattle.byte_meaning.specs.Messages.{AreFields}
use Rattle.timer_core.specs.Timing.{Timing}
use Rattle.register_code.specs.declared.code.Code.{Code}
use Rattle.register_code.specs.declared.code.CodeAction.{CodeAction}
use Rattle.register_code.specs.declared.code.CodeField.{CodeField}
use Rattle.register_code.specs.declared.code.CodeInput.{CodeInput}
use Rattle.register_code.specs.declared.code.CodeKind.TheVariants as kind
use Rattle.register_code.specs.declared.code.CodeMessage.{CodeMessage}
use Rattle.register_code.specs.declared.code.CodeProcess.{CodeProcess}
use Rattle.register_code.specs.Fields.{code_field}
use Rattle.register_code.specs.Registers.{inputs_ranges, received_message}
use Rattle.register_code.specs.Verified.{received_fields}
use Rattle.sound_code.specs.Fitting.{ReceivedFit}
use Rattle.drawn_steps.specs.Boxes.{Boxed, IsEmpty, IsNewOutbox, IsOutboxOf}
use Rattle.action_machine.specs.Machines.{HasGuard, InputsFit, IsNew, Placed}
use Rattle.action_machine.specs.Runs.{CanRun}
use Rattle.machine_tests.specs.Suiting.{Suits}

-- the values that were looked at are within their ranges
abbrev pub AreSoFar : {A : Type 0} → (A → Range) → List A → List ℤ → ℕ → Type 0
AreSoFar {A} range xs given at = (k : ℕ) (i : A) (x : ℤ) → k < at → slice_get xs k ≡ Some i → slice_get given k ≡ Some x → IsIn x (range i)

all_in : {A : Type 0} (range : A → Range) (xs : List A) (given : List ℤ) → length given ≡ length xs → ((k : ℕ) (i : A) (x : ℤ) → slice_get xs k ≡ Some i → slice_get given k ≡ Some x → IsIn x (range i)) → AreIn (map range xs) given
all_in range [] [] e h = tt
all_in range [] (x ∷ xs) e h = absurd (omega (arith, e))
all_in range (i ∷ is) [] e h = absurd (omega (arith, e))
all_in range (i ∷ is) (x ∷ xs) e h = (h 0 i x refl refl, all_in range is xs (omega (arith, e)) (λ k. h (suc k)))

pub all_looked : {A : Type 0} (range : A → Range) (xs : List A) (given : List ℤ) → length given ≡ length xs → AreSoFar range xs given (length xs) → AreAllIn (map range xs) given
all_looked range xs given e h = record {
  counted = e ∙ sym (length-map xs range);
  within = all_in range xs given e (λ k i x at be. h k i x (slice_get_within xs k i at) at be);
}

pub so_far_on : {A : Type 0} (range : A → Range) (xs : List A) (given : List ℤ) (at : ℕ) (i : A) (x : ℤ) → AreSoFar range xs given at → slice_get xs at ≡ Some i → slice_get given at ≡ Some x → IsIn x (range i) → AreSoFar range xs given (at + 1)
so_far_on {A} range xs given at i x h is be within k j y l f g = by_place (cases_eq k at) where
  by_place : (k ≡ at) ⊎ (k ≡ at → ⊥) → IsIn y (range j)
  by_place (inl same) =
      let one : i ≡ j = same_Some i j (sym is ∙ subst (λ (n : ℕ). slice_get xs n ≡ Some j) same f) in
      let two : x ≡ y = same_Some x y (sym be ∙ subst (λ (n : ℕ). slice_get given n ≡ Some y) same g) in
      subst (λ (z : ℤ). IsIn z (range j)) two (subst (λ (c : A). IsIn x (range c)) one within)
  by_place (inr apart) = h k j y (omega (arith, l, apart)) f g

-- the ranges of inputs, and of fields
abbrev pub of_input : CodeInput → Range
of_input i = from_to i.lo i.hi

abbrev pub of_field : CodeField → Range
of_field f = field_range (code_field f)

both_maps : (fields : List CodeField) → map of_field fields ≡ map field_range (map code_field fields)
both_maps [] = refl
both_maps (f ∷ fs) = ap (λ rs. of_field f ∷ rs) (both_maps fs)

pub fields_looked : (fields : List CodeField) (given : List ℤ) → AreAllIn (map of_field fields) given → AreFields (map code_field fields) given
fields_looked fields given h = subst (λ (rs : List Range). AreAllIn rs given) (both_maps fields) h

-- ---- what is heard

pub hears_none : (code : Code) (a : CodeAction) (received : List ℤ) → received_message a ≡ None → ReceivedFit (received_fields code a) received
hears_none code a received e = rw e tt

pub hears_fields : (code : Code) (a : CodeAction) (message : CodeMessage) (fields : List CodeField) (received : List ℤ) → a.kind ≡ kind.Receive → slice_get code.messages a.a ≡ Some message → fields ≡ message.fields → AreFields (map code_field fields) received
    → ReceivedFit (received_fields code a) received
hears_fields code a message fields received e there same h = rw (e, there) (subst (λ (fs : List CodeField). AreFields (map code_field fs) received) same h)

-- ---- what is tested of an action

pub suited : (code : Code) (p n timers : ℕ) (given received : List ℤ) (process : CodeProcess) (action : CodeAction) (inputs : List CodeInput) → slice_get code.processes p ≡ Some process → slice_get process.actions n ≡ Some action
    → process.timers ≡ timers → ReceivedFit (received_fields code action) received → inputs ≡ process.inputs → AreAllIn (inputs_ranges inputs) given → Suits code p n given timers received
suited code p n timers given received process action inputs there declared counted heard same fit = record {
  has = record { of_process = process; there = there; action = action; declared = declared };
  inputs_fit = subst (λ (is : List CodeInput). AreAllIn (inputs_ranges is) given) same fit;
  timers_are = counted;
  heard = heard;
}

pub guarded : (code : Code) (p n : ℕ) (process : CodeProcess) (action : CodeAction) → slice_get code.processes p ≡ Some process → slice_get process.actions n ≡ Some action → action.kind ≡ kind.Local → HasGuard code p n
guarded code p n process action there declared local = record { action = record { of_process = process; there = there; action = action; declared = declared }; local = local }

-- ---- for the calls

pub inputs_suit : (code : Code) (p n timers : ℕ) (given received : List ℤ) → Suits code p n given timers received → InputsFit code p given
inputs_suit code p n timers given received s = record { process = s.has.of_process; there = s.has.there; fit = s.inputs_fit }

pub process_there : (code : Code) (p n timers : ℕ) (given received : List ℤ) → Suits code p n given timers received → p < length code.processes
process_there code p n timers given received s = slice_get_within code.processes p s.has.of_process s.has.there

pub can_run : (code : Code) (m : Placed) (n timers : ℕ) (given received : List ℤ) (t : Timing) (box : Boxed) → Suits code m.process n given timers received → t ≡ record { time = 0; states = replicate timers Off } → IsEmpty box → IsOutboxOf code m.process box
    → CanRun code m n received t box
can_run code m n timers given received t box s is empty room = record {
  action = s.has;
  heard = s.heard;
  timers_counted = ap (λ (z : Timing). length z.states) is ∙ length-replicate timers Off ∙ sym s.timers_are;
  empty = empty;
  room = room;
}

pub guard_there : (code shown : Code) (at p n : ℕ) → shown ≡ code → at ≡ p → HasGuard shown p n → HasGuard code at n
guard_there code shown at p n same is has = subst (λ (q : ℕ). HasGuard code q n) (sym is) (subst (λ (c : Code). HasGuard c p n) same has)

-- ---- of what was made

pub new_can_run : (code shown : Code) (m m_after : Placed) (p n timers : ℕ) (given received : List ℤ) (t : Timing) (box : Boxed) → shown ≡ code → Suits shown p n given timers received → IsNew code p given m → m_after ≡ m
    → t ≡ record { time = 0; states = replicate timers Off } → IsNewOutbox code p box → CanRun code m_after n received t box
new_can_run code shown m m_after p n timers given received t box same s new kept is made =
    let at : m_after.process ≡ p = ap (λ (q : Placed). q.process) kept ∙ new.of_process in
    can_run code m_after n timers given received t box (subst (λ (q : ℕ). Suits code q n given timers received) (sym at) (subst (λ (c : Code). Suits c p n given timers received) same s)) is made.empty (subst (λ (q : ℕ). IsOutboxOf code q box) (sym at) made.room)
