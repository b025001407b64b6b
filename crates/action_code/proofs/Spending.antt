-- What the instructions so far cost and send.
use Rattle.std.proofs.Common.{◌≡◌, ◌+◌, ◌*◌, ◌/◌, ◌<◌, ◌≤◌, ℕ, zero, suc, true, false, List, ◌⊎◌, inl, inr, refl, ap, sym, ◌∙◌, slice_get, Some, None, add-one, arith}
use Rattle.std.specs.Prelude.{nat_le}
use Rattle.std.proofs.lemmas.Bool.{cases_lt, le-leb, lt-leb}
use Rattle.std.proofs.lemmas.Nat.{div-mul-add, mul-le}
use Rattle.register_code.specs.declared.instr.Instr.{Instr}
use Rattle.register_code.specs.declared.instr.Instr.TheVariants as instr
use Rattle.register_code.specs.Loops.{cost, count_at, counted, one_send, sends, weight, begun_by, ended_by}
use Rattle.register_code.specs.Jumping.{AreWhole}
use Rattle.register_code.specs.Sums.{sum_below}
use Rattle.register_code.specs.Verified.{whole_rules}
use Rattle.register_code.proofs.Nested.{begun_loop}
use Rattle.register_code.proofs.Nested.{loop_fits}
use Rattle.action_code.proofs.Weights.{weight_in, weight_on, weight_out}

-- the total over the instructions below n
abbrev pub so_far : (Instr → ℕ) → List Instr → ℕ → ℕ
so_far g instrs n = sum_below n (λ i. counted g (slice_get instrs i) * weight instrs i)

pub so_far_more : (g : Instr → ℕ) (instrs : List Instr) (at : ℕ) (i : Instr) → slice_get instrs at ≡ Some i → so_far g instrs (at + 1) ≡ so_far g instrs at + g i * weight instrs at
so_far_more g instrs at i is = rw (add-one, is) refl

pub grows : (f : ℕ → ℕ) (m n : ℕ) → m ≤ n → sum_below m f ≤ sum_below n f
grows f m zero l = let same : m ≡ 0 = omega arith in rw same (omega arith)
grows f m (suc n) l = by_order (cases_lt n m) (λ k. grows f m n k) where
  by_order : (n < m) ⊎ (m ≤ n) → (m ≤ n → sum_below m f ≤ sum_below n f) → sum_below m f ≤ sum_below n f + f n
  by_order (inl behind) rest = let same : m ≡ suc n = omega arith in rw same (omega arith)
  by_order (inr before) rest = omega (arith, rest before)

pub too_dear : (instrs : List Instr) → 16000000 < cost instrs → Some 11 ≡ slice_get (whole_rules instrs) 0
too_dear instrs l = let test : nat_le (cost instrs) 16000000 ≡ false = lt-leb (cost instrs) 16000000 l in rw test refl

pub too_many : (instrs : List Instr) → cost instrs ≤ 16000000 → 64 < sends instrs → Some 12 ≡ slice_get (whole_rules instrs) 0
too_many instrs l m =
    let cheap : nat_le (cost instrs) 16000000 ≡ true = le-leb (cost instrs) 16000000 l in
    let test : nat_le (sends instrs) 64 ≡ false = lt-leb (sends instrs) 64 m in rw (cheap, test) refl

pub all_kept : (instrs : List Instr) → cost instrs ≤ 16000000 → sends instrs ≤ 64 → None ≡ slice_get (whole_rules instrs) 0
all_kept instrs l m =
    let cheap : nat_le (cost instrs) 16000000 ≡ true = le-leb (cost instrs) 16000000 l in
    let test : nat_le (sends instrs) 64 ≡ true = le-leb (sends instrs) 64 m in rw (cheap, test) refl

-- ---- the next weight

pub record Next (instrs : List Instr) (at w v : ℕ) : Type 0 where
  pub value : v ≡ weight instrs (at + 1)
  pub wide : v ≤ 1048576000000

pub repeated : (instrs : List Instr) → AreWhole instrs → (at w count last : ℕ) → slice_get instrs at ≡ Some (instr.Repeat count last) → w ≡ weight instrs at → w ≤ 16000000 → Next instrs at w (w * count)
repeated instrs h at w count last is e small =
    let into = weight_in instrs h at count last is in
    let most = (loop_fits instrs h at (record { last = last; count = count }) (begun_loop instrs h count last at is)).most in
    let product = mul-le w count 16000000 65536 small most in
    record { value = ap (λ m. m * count) e ∙ sym into; wide = omega (arith, product) }

pub ended : (instrs : List Instr) → AreWhole instrs → (at w first : ℕ) → slice_get instrs at ≡ Some (instr.Again first) → w ≡ weight instrs at → w ≤ 16000000
    → (1 ≤ count_at (slice_get instrs first)) × Next instrs at w (w / count_at (slice_get instrs first))
ended instrs h at w first is e small =
    let out = weight_out instrs h at first is in
    let count_is : count_at (slice_get instrs first) ≡ out.0 = ap count_at out.1 in
    let some : 1 ≤ out.0 = out.2 in
    let product : weight instrs (at + 1) * out.0 + 0 ≡ w = omega (arith, out.3, e) in
    let quotient : w / out.0 ≡ weight instrs (at + 1) = ap (λ m. m / out.0) (sym product) ∙ div-mul-add (weight instrs (at + 1)) out.0 0 some in
    let value : w / count_at (slice_get instrs first) ≡ weight instrs (at + 1) = ap (λ m. w / m) count_is ∙ quotient in
    (omega (arith, count_is, some), record { value = value; wide = omega (arith, value, product, mul-le 1 (weight instrs (at + 1)) out.0 (weight instrs (at + 1)) some (omega arith)) })

pub passed : (instrs : List Instr) (at w : ℕ) (i : Instr) → slice_get instrs at ≡ Some i → begun_by i ≡ None → ended_by i ≡ None → w ≡ weight instrs at → w ≤ 16000000 → Next instrs at w w
passed instrs at w i is first last e small = record { value = e ∙ sym (weight_on instrs at i is first last); wide = omega (arith, small) }

pub at_most_one : (i : Instr) (w : ℕ) → one_send i * w ≤ w
at_most_one (instr.Send message first count to) w = omega arith
at_most_one _ w = omega arith
