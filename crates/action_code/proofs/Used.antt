-- What the instructions so far send and choose.
use Rattle.std.proofs.Common.{◌≡◌, ◌+◌, ◌*◌, ◌≤◌, ℕ, true, List, length, refl, ap, slice_get, Option, Some, None, arith}
use Rattle.std.specs.List.{list_all}
use Rattle.std.proofs.lemmas.Bool.{leb-true}
use Rattle.std.proofs.lemmas.Nat.{mul-le}
use Rattle.std.proofs.lemmas.Option.{slice_get_within}
use Rattle.register_code.specs.declared.code.CodeMessage.{CodeMessage}
use Rattle.register_code.specs.declared.instr.Instr.{Instr}
use Rattle.register_code.specs.declared.instr.Instr.TheVariants as instr
use Rattle.register_code.specs.Declarations.{at_most}
use Rattle.register_code.specs.Loops.{cost, counted, one_choice, one_send, one_step, weight}
use Rattle.register_code.proofs.Passing.{all_at}
use Rattle.action_code.specs.declared.uses.Uses.{Uses}
use Rattle.action_code.specs.Using.{fields_in, one_value}
use Rattle.action_code.proofs.Spending.{grows, so_far, so_far_more}

pub few_values : (messages : List CodeMessage) (i : Instr) → list_all (λ (m : CodeMessage). at_most 256 m.fields) messages ≡ true → one_value messages i ≤ 256
few_values messages (instr.Send message first count to) few = by_there (slice_get messages message) refl where
  by_there : (o : Option CodeMessage) → slice_get messages message ≡ o → fields_in o ≤ 256
  by_there None e = omega arith
  by_there (Some m) e = leb-true (length m.fields) 256 (all_at (λ (d : CodeMessage). at_most 256 d.fields) messages message m few e)
few_values messages _ few = omega arith

pub one_choice_few : (i : Instr) → one_choice i ≤ 1
one_choice_few (instr.Choose r lo hi) = omega arith
one_choice_few (instr.Select r first count) = omega arith
one_choice_few _ = omega arith

pub one_send_few : (i : Instr) → one_send i ≤ 1
one_send_few (instr.Send message first count to) = omega arith
one_send_few _ = omega arith

-- what the instructions before one count, and that they are few
pub record IsSoFar (messages : List CodeMessage) (instrs : List Instr) (at w : ℕ) (uses : Uses) : Type 0 where
  pub weight_is : w ≡ weight instrs at
  pub sends : uses.sends ≡ so_far one_send instrs at
  pub values : uses.values ≡ so_far (one_value messages) instrs at
  pub choices : uses.choices ≡ so_far one_choice instrs at
  pub few_sends : uses.sends ≤ so_far one_step instrs at
  pub few_values : uses.values ≤ 256 * so_far one_step instrs at
  pub few_choices : uses.choices ≤ so_far one_step instrs at

-- the weight and what is counted are small, where the part is cheap
pub record IsSmall (w : ℕ) (uses : Uses) : Type 0 where
  pub weight : w ≤ 16000000
  pub sends : uses.sends ≤ 16000000
  pub values : uses.values ≤ 4096000000
  pub choices : uses.choices ≤ 16000000

pub is_small : (messages : List CodeMessage) (instrs : List Instr) (at w : ℕ) (uses : Uses) (i : Instr) → slice_get instrs at ≡ Some i → cost instrs ≤ 16000000 → IsSoFar messages instrs at w uses → IsSmall w uses
is_small messages instrs at w uses i is cheap h =
    let inside = slice_get_within instrs at i is in
    let more = so_far_more one_step instrs at i is in
    let most = grows (λ k. counted one_step (slice_get instrs k) * weight instrs k) (at + 1) (length instrs) (omega (arith, inside)) in
    let all : so_far one_step instrs (at + 1) ≤ 16000000 = omega (arith, most, cheap) in
    record {
      weight = omega (arith, h.weight_is, more, all);
      sends = omega (arith, h.few_sends, more, all);
      values = omega (arith, h.few_values, more, all);
      choices = omega (arith, h.few_choices, more, all);
    }

pub record Adds (messages : List CodeMessage) (i : Instr) (w : ℕ) (uses after : Uses) : Type 0 where
  pub sends : after.sends ≡ uses.sends + one_send i * w
  pub values : after.values ≡ uses.values + one_value messages i * w
  pub choices : after.choices ≡ uses.choices + one_choice i * w

pub so_far_on : (messages : List CodeMessage) (instrs : List Instr) (at w v : ℕ) (uses after : Uses) (i : Instr) → list_all (λ (m : CodeMessage). at_most 256 m.fields) messages ≡ true → slice_get instrs at ≡ Some i
    → IsSoFar messages instrs at w uses → Adds messages i w uses after → v ≡ weight instrs (at + 1) → IsSoFar messages instrs (at + 1) v after
so_far_on messages instrs at w v uses after i few is h adds next =
    let was = h.weight_is in
    let steps = so_far_more one_step instrs at i is in
    let sends = so_far_more one_send instrs at i is in
    let values = so_far_more (one_value messages) instrs at i is in
    let choices = so_far_more one_choice instrs at i is in
    let sends_are : one_send i * w ≡ one_send i * weight instrs at = ap (λ n. one_send i * n) was in
    let values_are : one_value messages i * w ≡ one_value messages i * weight instrs at = ap (λ n. one_value messages i * n) was in
    let choices_are : one_choice i * w ≡ one_choice i * weight instrs at = ap (λ n. one_choice i * n) was in
    let one = mul-le (one_send i) (weight instrs at) 1 (weight instrs at) (one_send_few i) (omega arith) in
    let many = mul-le (one_value messages i) (weight instrs at) 256 (weight instrs at) (few_values messages i few) (omega arith) in
    let other = mul-le (one_choice i) (weight instrs at) 1 (weight instrs at) (one_choice_few i) (omega arith) in
    record {
      weight_is = next;
      sends = omega (arith, adds.sends, sends_are, sends, h.sends);
      values = omega (arith, adds.values, values_are, values, h.values);
      choices = omega (arith, adds.choices, choices_are, choices, h.choices);
      few_sends = omega (arith, adds.sends, sends_are, one, steps, h.few_sends);
      few_values = omega (arith, adds.values, values_are, many, steps, h.few_values);
      few_choices = omega (arith, adds.choices, choices_are, other, steps, h.few_choices);
    }
