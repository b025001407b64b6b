-- No divisor of code that keeps its rules is 0.
use Rattle.std.proofs.Common.{◌≡◌, ◌≢◌, ℕ, ℤ, pos, true, false, not, length, sym, ◌∙◌, slice_get, Some}
use Rattle.std.specs.Ordering.{int_eq}
use Rattle.std.proofs.lemmas.Bool.{and_parts, not-true, true≢false}
use Rattle.std.proofs.lemmas.Bool.Decides.{Decides-int_eq}
use Rattle.tap_base.specs.declared.tree.Op.{Op}
use Rattle.tap_base.specs.declared.tree.Op.TheVariants as op
use Rattle.tap_base.specs.Interval.{operation_range}
use Rattle.register_code.specs.declared.instr.Instr.{Instr}
use Rattle.register_code.specs.declared.instr.Instr.TheVariants as instr
use Rattle.sound_code.specs.Fitting.{FitsSite}
use Rattle.register_code.specs.Instructions.{Moment}
use Rattle.sound_code.specs.Promises.{DividesWell}
use Rattle.register_code.specs.Results.{operates}
use Rattle.register_code.specs.Sites.{Site}
use Rattle.sound_code.proofs.Fitted.{Held, held}
use Rattle.register_code.proofs.Kept.{Keeps}
use Rattle.sound_values.proofs.Operations.{operation_does}
use Rattle.tap_exec.specs.Computed.{can_apply}
use Rattle.sound_code.proofs.Named.{names_of, operated, three_named}

-- the second operand of an operation that the rules let stand, where 64 bits compute it only if that is not 0
divisor : (s : Site) (m : Moment) (o : Op) (r a b : ℕ) → FitsSite s m → operates s o r a b ≡ true → Held s m r → Held s m a → Held s m b
    → ((x y : ℤ) → can_apply o x y ≡ true → int_eq y (pos 0) ≡ false) → slice_get m.registers b ≢ Some (pos 0)
divisor s m o r a b fits kept to x y only e =
    let to_is = to.ranged in
    let x_is = x.ranged in
    let y_is = y.ranged in
    let result = operated (operation_range o x.range y.range) to.range (rw (to_is, x_is, y_is) at kept) in
    let does_it = operation_does o x.value y.value x.range y.range result.0 x.within y.within result.1 in
    let differs = only x.value y.value does_it.can in
    let at = y.at in
    let same : y.value ≡ pos 0 = cc in
    true≢false (sym ((Decides-int_eq y.value (pos 0)).1 same) ∙ differs)

div_only : (x y : ℤ) → can_apply op.Div x y ≡ true → int_eq y (pos 0) ≡ false
div_only x y e = not-true (int_eq y (pos 0)) (and_parts (not (int_eq y (pos 0))) _ e).0

mod_only : (x y : ℤ) → can_apply op.Mod x y ≡ true → int_eq y (pos 0) ≡ false
mod_only x y e = not-true (int_eq y (pos 0)) e

pub divides_well : (s : Site) (i : Instr) (m : Moment) → Keeps s m.next i → FitsSite s m → DividesWell i m
divides_well s (instr.Div r a b) m k fits =
    let named = three_named (length s.ranges) r a b (names_of s (instr.Div r a b) k.names).registers in
    divisor s m op.Div r a b fits k.result (held s m r fits named.0) (held s m a fits named.1) (held s m b fits named.2) div_only
divides_well s (instr.Mod r a b) m k fits =
    let named = three_named (length s.ranges) r a b (names_of s (instr.Mod r a b) k.names).registers in
    divisor s m op.Mod r a b fits k.result (held s m r fits named.0) (held s m a fits named.1) (held s m b fits named.2) mod_only
divides_well s i m k fits = tt
