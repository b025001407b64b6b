-- What is answered of a list of parts, from what is answered of one.
use Rattle.std.proofs.Common.{◌≡◌, ◌<◌, ℕ, sym, subst, List, drop, length, flat_map, map, get_or, Result, Ok, Err, IsErrAnd}
use Rattle.tap_base.specs.declared.place.Range.{Range}
use Rattle.tap_base.specs.declared.refusal.Refusal.{Refusal}
use Rattle.tap_base.specs.declared.system.Action.{Action}
use Rattle.tap_base.specs.declared.system.Message.{Message}
use Rattle.tap_base.specs.declared.system.Process.{Process}
use Rattle.tap_base.specs.Offences.{Clears}
use Rattle.tap_base.specs.Ranges.{ranges_of}
use Rattle.tap_base.specs.Scope.{input_ranges, received_fields, value_range}
use Rattle.width_check.specs.declared.fault.WidthFault.{WidthFault}
use Rattle.width_check.specs.declared.fault.WidthFault.TheVariants as fault
use Rattle.width_check.specs.declared.reads.Reads.{Reads}
use Rattle.width_check.specs.Offences.{action_offences, offences_in}
use Rattle.width_check.specs.inner.Answering.{Finds, Passes}
use Rattle.width_check.specs.inner.Reading.{reading}
use Rattle.width_check.proofs.Firsts.{in_flat}

pub passed : (offences : List Refusal) (found : Result Unit Refusal) (res : Result Unit WidthFault) → Passes found res → Clears offences found → Finds offences res
passed offences (Ok u) res h f = subst (Finds offences) (sym h) f
passed offences (Err r) res h f = subst (Finds offences) (sym h) f

pub stops : (offences : List Refusal) (res : Result Unit WidthFault) (w : WidthFault) → IsErrAnd res (λ e. e ≡ w) → Finds offences (Err w) → Finds offences res
stops offences (Ok a) w h f = absurd h
stops offences (Err e) w h f = let F : WidthFault → Type 0 = λ v. Finds offences (Err v) in subst F (sym h) f

stops_in_list : {A : Type 0} (f : A → List Refusal) (xs : List A) (i : ℕ) (x : A) (w : WidthFault) → flat_map f (drop i xs) ≡ flat_map f xs → i < length xs → x ≡ get_or xs i x
    → Finds (f x) (Err w) → Finds (flat_map f xs) (Err w)
stops_in_list f xs i x (fault.Refused r) e l is h = in_flat f xs i x r l is e h
stops_in_list f xs i x fault.NoMemory e l is h = tt

-- the list is read through a slice
pub stops_in_slice : {A : Type 0} (f : A → List Refusal) (xs ys : List A) (i : ℕ) (x : A) (w : WidthFault) → xs ≡ ys → flat_map f (drop i ys) ≡ flat_map f ys → i < length xs → x ≡ get_or xs i x
    → Finds (f x) (Err w) → Finds (flat_map f ys) (Err w)
stops_in_slice {A} f xs ys i x w same e l is h =
    let E : List A → Type 0 = λ z. flat_map f (drop i z) ≡ flat_map f z in
    let F : List A → Type 0 = λ z. Finds (flat_map f z) (Err w) in
    subst F same (stops_in_list f xs i x w (subst E (sym same) e) l is h)

-- what an action reads of the cells and inputs of its process
pub of_process : (messages : List Message) (r : Reads) (p : Process) (a : Action) (res : Result Unit WidthFault) → r.cells ≡ ranges_of p.vars → r.inputs ≡ input_ranges p.inputs
    → Finds (offences_in messages (reading messages r a) a) res → Finds (action_offences messages p a) res
of_process messages r p a res e f h =
    let fields = map value_range (received_fields messages a.guard) in
    let C : List Range → Type 0 = λ cs. Finds (offences_in messages (record { cells = cs; inputs = input_ranges p.inputs; fields = fields }) a) res in
    let I : List Range → Type 0 = λ is. Finds (offences_in messages (record { cells = r.cells; inputs = is; fields = fields }) a) res in
    subst C e (subst I f h)
