-- The first offence of lists one behind the other.
use Rattle.std.proofs.Common.{◌≡◌, sym, subst, List, [], ◌++◌, Some}
use Rattle.tap_base.specs.declared.refusal.Refusal.{Refusal}
use Rattle.tap_names.specs.declared.fault.TypeFault.{TypeFault}
use Rattle.tap_names.specs.declared.fault.TypeFault.TheVariants as fault
use Rattle.tap_base.specs.ListWords.{first}
use Rattle.tap_base.proofs.LoopFacts.{first_back, first_front}
use Rattle.tap_names.specs.Refusals.{Faults}

pub front : (xs ys : List Refusal) (e : TypeFault) → Faults xs e → Faults (xs ++ ys) e
front xs ys (fault.Refused r) h = first_front xs ys r h
front xs ys fault.NoMemory h = tt

-- that of a front is that of what the parts make
pub front_of : (xs ys all : List Refusal) (e : TypeFault) → xs ++ ys ≡ all → Faults xs e → Faults all e
front_of xs ys all e q h = let F : List Refusal → Type 0 = λ z. Faults z e in subst F q (front xs ys e h)

pub back : (xs ys : List Refusal) (e : TypeFault) → xs ≡ [] → Faults ys e → Faults (xs ++ ys) e
back xs ys (fault.Refused r) e h = first_back xs ys r e h
back xs ys fault.NoMemory e h = tt

pub refused : (xs : List Refusal) (e : TypeFault) (r : Refusal) → e ≡ fault.Refused r → first xs ≡ Some r → Faults xs e
refused xs e r q h = let F : TypeFault → Type 0 = λ z. Faults xs z in subst F (sym q) h
