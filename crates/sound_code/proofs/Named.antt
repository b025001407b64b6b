-- What an instruction names is there, and operations and copies keep ranges.
use Rattle.std.proofs.Common.{◌≡◌, ◌<◌, ℕ, ℤ, pos, true, [], ◌∷◌, length, refl, Option, Some, None, arith}
use Rattle.std.specs.Prelude.{◌≤ℤ◌, nat_lt, int_le, int_lt}
use Rattle.std.specs.List.{list_all}
use Rattle.std.proofs.lemmas.Bool.{and_parts, lt-ltb}
use Rattle.std.proofs.lemmas.Int.{ints}
use Rattle.tap_base.specs.declared.place.Range.{Range}
use Rattle.tap_base.specs.declared.tree.Op.{Op}
use Rattle.tap_base.specs.Interval.{operation_range}
use Rattle.tap_base.specs.Option.{◌>>=◌, is_yes}
use Rattle.tap_exec.specs.Value.{operation}
use Rattle.register_code.specs.declared.instr.Instr.{Instr}
use Rattle.sound_code.specs.Fitting.{FitsSite, IsRefused}
use Rattle.register_code.specs.Instructions.{Moment, computes}
use Rattle.register_code.specs.Naming.{may_stand, may_write, named, names_exist, others_exist, written}
use Rattle.register_code.specs.Results.{operates}
use Rattle.register_code.specs.Sites.{Site, holds_of, lies_in}
use Rattle.sound_code.proofs.Fitted.{held, lies_on, puts_fits}
use Rattle.sound_values.proofs.Operations.{operation_does}

-- the next moment fits, or a choice is refused
abbrev pub Outcome : Site → Instr → Moment → Option Moment → Type 0
Outcome s i m (Some t) = FitsSite s t
Outcome s i m None = IsRefused i m

-- ---- what is named

pub record Names (s : Site) (i : Instr) : Type 0 where
  pub registers : list_all (λ r. nat_lt r (length s.ranges)) (named i) ≡ true
  pub others : others_exist s i ≡ true
  pub written : holds_of (written i) (may_write s) ≡ true

pub names_of : (s : Site) (i : Instr) → names_exist s i ≡ true → Names s i
names_of s i e =
    let stand = and_parts _ (may_stand s.part i) e in
    let write = and_parts _ (holds_of (written i) (may_write s)) stand.0 in
    let exist = and_parts (list_all (λ r. nat_lt r (length s.ranges)) (named i)) (others_exist s i) write.0 in
    record { registers = exist.0; others = exist.1; written = write.1 }

pub one_named : (n r : ℕ) → list_all (λ k. nat_lt k n) (r ∷ []) ≡ true → nat_lt r n ≡ true
one_named n r e = (and_parts (nat_lt r n) true e).0

two_named : (n r a : ℕ) → list_all (λ k. nat_lt k n) (r ∷ a ∷ []) ≡ true → (nat_lt r n ≡ true) × (nat_lt a n ≡ true)
two_named n r a e = let parts = and_parts (nat_lt r n) (list_all (λ k. nat_lt k n) (a ∷ [])) e in (parts.0, one_named n a parts.1)

pub three_named : (n r a b : ℕ) → list_all (λ k. nat_lt k n) (r ∷ a ∷ b ∷ []) ≡ true → (nat_lt r n ≡ true) × (nat_lt a n ≡ true) × (nat_lt b n ≡ true)
three_named n r a b e =
    let parts = and_parts (nat_lt r n) (list_all (λ k. nat_lt k n) (a ∷ b ∷ [])) e in
    let two = two_named n a b parts.1 in (parts.0, two.0, two.1)

-- ---- an operation

pub operated : (o : Option Range) (range : Range) → is_yes (o >>= λ result. Some (lies_in result range)) ≡ true → (c : Range) × (o ≡ Some c) × (lies_in c range ≡ true)
operated None range e = cc
operated (Some c) range e = (c, refl, e)

pub computes_fits : (s : Site) (m : Moment) (i : Instr) (o : Op) (r a b : ℕ) → FitsSite s m → m.next < length s.instrs
    → list_all (λ k. nat_lt k (length s.ranges)) (r ∷ a ∷ b ∷ []) ≡ true → operates s o r a b ≡ true → Outcome s i m (computes o r a b m)
computes_fits s m i o r a b fits going names kept =
    let there_are = three_named (length s.ranges) r a b names in
    let to = held s m r fits there_are.0 in
    let x = held s m a fits there_are.1 in
    let y = held s m b fits there_are.2 in
    let to_is = to.ranged in
    let x_is = x.ranged in
    let y_is = y.ranged in
    let result = operated (operation_range o x.range y.range) to.range (rw (to_is, x_is, y_is) at kept) in
    let does_it = operation_does o x.value y.value x.range y.range result.0 x.within y.within result.1 in
    let x_at = x.at in
    let y_at = y.at in
    rw (x_at, y_at) (puts_fits s m r (operation o x.value y.value) to.range fits going to.ranged (lies_on result.0 to.range (operation o x.value y.value) result.2 does_it.within))

-- ---- tests of numbers

pub le_is : (x y : ℤ) → x ≤ℤ y → int_le x y ≡ true
le_is x y h = grind (arith, ints)

pub lt_is : (n k : ℕ) → n < k → int_lt (pos n) (pos k) ≡ true
lt_is n k l = lt-ltb n k l
