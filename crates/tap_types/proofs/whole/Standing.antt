-- What the names in an action stand for is there.
use Rattle.std.proofs.Common.{◌≡◌, ℕ, ◌+◌, ◌<◌, List, Option, Some, None, true, slice_get, length, sym, subst, arith}
use Rattle.tap_base.specs.declared.place.Range.{Range}
use Rattle.tap_base.specs.Interval.{IsWithin, fits, truth_range}
use Rattle.tap_names.specs.declared.named.Kind.{Kind}
use Rattle.tap_names.specs.declared.named.Kind.TheVariants.{Boolean, Number}
use Rattle.tap_names.specs.declared.named.Named.{Named}
use Rattle.tap_names.specs.declared.named.Named.TheVariants as named
use Rattle.tap_base.specs.Resolved.{IsArray}
use Rattle.tap_base.specs.Scope.{Scope as Reach}
use Rattle.tap_types.specs.Scopes.{Scope, field_in, is_number, named_in}
use Rattle.tap_base.specs.Truths.{IsOfTruths}

-- truths have no value but 0 and 1
abbrev pub OfKind : Kind → Range → Type 0
OfKind Boolean range = IsWithin range truth_range
OfKind Number range = Unit {0}

abbrev pub IsStanding : Reach → ℕ → Named → Type 0
IsStanding s timers (named.Constant v) = fits v ≡ true
IsStanding s timers (named.Input n k) = (range : Range) × (slice_get s.inputs n ≡ Some range) × OfKind k range
IsStanding s timers (named.Variable first k range) = IsArray s.cells first 1 range × OfKind k range
IsStanding s timers (named.Array first count k range) = IsArray s.cells first count range × OfKind k range
IsStanding s timers (named.Timer t) = t < timers

-- where there is such a name
abbrev pub StandsFor : Reach → ℕ → Option Named → Type 0
StandsFor s timers None = Unit {0}
StandsFor s timers (Some n) = IsStanding s timers n

-- What names stand for in an action is there among what it can read, and among so many timers.
pub record Stands (c : Scope) (s : Reach) (timers : ℕ) : Type 0 where
  pub names : (x : List ℕ) → StandsFor s timers (named_in c x)
  pub fields : (m k : ℕ) (f : List ℕ) → is_number m c.received ≡ true → field_in c m f ≡ Some k → k < length s.fields

-- ---- ranges

pub array_first : (cells : List Range) (first count : ℕ) (range : Range) → IsArray cells first count range → slice_get cells first ≡ Some range
array_first cells first count range h =
    let same : first + 0 ≡ first = omega arith in
    let some : 0 < count = omega (arith, h.some) in
    subst (λ z. slice_get cells z ≡ Some range) same (h.each 0 some)

of_boolean : (k : Kind) (range : Range) → OfKind k range → k ≡ Boolean → IsWithin range truth_range
of_boolean Boolean range h e = h
of_boolean Number range h e = absurd cc

pub truths_at : (o : Option Range) (k : Kind) (range : Range) → o ≡ Some range → OfKind k range → k ≡ Boolean → IsOfTruths o
truths_at o k range e h q = subst IsOfTruths (sym e) (of_boolean k range h q)
