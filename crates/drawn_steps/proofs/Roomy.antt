-- How much room the bodies of a process ask for.
use Rattle.std.proofs.Common.{◌≡◌, ◌+◌, ◌<◌, ◌≤◌, ◌&&◌, ℕ, zero, suc, true, List, [], ◌∷◌, map, drop, length, get_or, refl, ap, sym, subst, ◌∙◌, slice_get, Some, arith}
use Rattle.std.specs.Prelude.{max}
use Rattle.std.specs.List.{list_all}
use Rattle.std.proofs.lemmas.Bool.{and_parts, leb-true}
use Rattle.std.proofs.lemmas.Option.{same_Some, slice_get-get_or}
use Rattle.tap_base.proofs.ListFacts.{cut_at}
use Rattle.register_code.specs.declared.bad.Part.TheVariants as part
use Rattle.register_code.specs.declared.code.Code.{Code}
use Rattle.register_code.specs.declared.code.CodeAction.{CodeAction}
use Rattle.register_code.specs.declared.code.CodeMessage.{CodeMessage}
use Rattle.register_code.specs.declared.code.CodeProcess.{CodeProcess}
use Rattle.register_code.specs.Declarations.{all_differ, at_most, message_limits, process_limits, program_counts_fit, is_name}
use Rattle.register_code.specs.Loops.{choices, cost, sends}
use Rattle.register_code.specs.Verified.{IsVerified, site_of}
use Rattle.register_code.proofs.Kept.{are_whole, code_keeps}
use Rattle.action_code.specs.declared.uses.Uses.{Uses}
use Rattle.action_code.specs.Using.{IsUse, values}
use Rattle.drawn_steps.specs.Boxes.{Boxed, HasRoomFor, IsNewOutbox, IsOutboxOf, greatest, most_choices, most_sends, most_values}
use Rattle.drawn_steps.specs.Rooms.{AreBodies, AreMost, AreMostOf}

-- ---- verified code

few_fields : (messages : List CodeMessage) → list_all message_limits messages ≡ true → list_all (λ (m : CodeMessage). at_most 256 m.fields) messages ≡ true
few_fields [] e = refl
few_fields (m ∷ ms) e =
    let parts = and_parts (message_limits m) (list_all message_limits ms) e in
    let here = (and_parts (is_name m.name) (at_most 256 m.fields) parts.0).1 in
    let rest = few_fields ms parts.1 in
    rw (here, rest) refl

pub are_bodies : (code : Code) (p : ℕ) (process : CodeProcess) → IsVerified code → slice_get code.processes p ≡ Some process → AreBodies code.messages process.actions
are_bodies code p process verified there =
    let keeps = code_keeps code verified in
    let limits = and_parts (program_counts_fit code && list_all message_limits code.messages && list_all process_limits code.processes) (all_differ (map (λ (q : CodeProcess). q.name) code.processes)) keeps.limits in
    let both = and_parts (program_counts_fit code && list_all message_limits code.messages) (list_all process_limits code.processes) limits.0 in
    record {
      whole = λ number action at. are_whole (site_of code p process action part.Body) ((keeps.actions p process there number action at).part part.Body);
      cheap = λ number action at. leb-true (cost action.body) 16000000 ((keeps.actions p process there number action at).part part.Body).cheap;
      few = few_fields code.messages (and_parts (program_counts_fit code) (list_all message_limits code.messages) both.0).1;
    }

-- ---- the greatest

-- the most so far, and that of the actions that are left
pub record IsMostSoFar (messages : List CodeMessage) (actions : List CodeAction) (at : ℕ) (most : Uses) : Type 0 where
  pub sends : max most.sends (most_sends (drop at actions)) ≡ most_sends actions
  pub values : max most.values (most_values messages (drop at actions)) ≡ most_values messages actions
  pub choices : max most.choices (most_choices (drop at actions)) ≡ most_choices actions

max_on : (a b x rest all : ℕ) → max a (max x rest) ≡ all → b ≡ max a x → max b rest ≡ all
max_on a b x rest all e f = omega (arith, e, f)

pub most_on : (messages : List CodeMessage) (actions : List CodeAction) (at : ℕ) (most after : Uses) (a : CodeAction) (uses : Uses) → IsMostSoFar messages actions at most → slice_get actions at ≡ Some a → IsUse messages a.body uses
    → after ≡ record { sends = max most.sends uses.sends; values = max most.values uses.values; choices = max most.choices uses.choices } → IsMostSoFar messages actions (at + 1) after
most_on messages actions at most after a uses h is used after_is =
    let cut = cut_at actions at a is in
    record {
      sends = max_on most.sends after.sends (sends a.body) (most_sends (drop (at + 1) actions)) (most_sends actions) (subst (λ (xs : List CodeAction). max most.sends (most_sends xs) ≡ most_sends actions) cut h.sends)
          (ap (λ (u : Uses). u.sends) after_is ∙ ap (max most.sends) used.sends);
      values = max_on most.values after.values (values messages a.body) (most_values messages (drop (at + 1) actions)) (most_values messages actions) (subst (λ (xs : List CodeAction). max most.values (most_values messages xs) ≡ most_values messages actions) cut h.values)
          (ap (λ (u : Uses). u.values) after_is ∙ ap (max most.values) used.values);
      choices = max_on most.choices after.choices (choices a.body) (most_choices (drop (at + 1) actions)) (most_choices actions) (subst (λ (xs : List CodeAction). max most.choices (most_choices xs) ≡ most_choices actions) cut h.choices)
          (ap (λ (u : Uses). u.choices) after_is ∙ ap (max most.choices) used.choices);
    }

drop_all : {A : Type 0} (xs : List A) → drop (length xs) xs ≡ []
drop_all [] = refl
drop_all (x ∷ xs) = drop_all xs

pub most_at_end : (messages : List CodeMessage) (actions : List CodeAction) (most : Uses) → IsMostSoFar messages actions (length actions) most → AreMost messages actions most
most_at_end messages actions most h =
    let none = drop_all actions in
    record {
      sends = omega (arith, subst (λ (xs : List CodeAction). max most.sends (most_sends xs) ≡ most_sends actions) none h.sends);
      values = omega (arith, subst (λ (xs : List CodeAction). max most.values (most_values messages xs) ≡ most_values messages actions) none h.values);
      choices = omega (arith, subst (λ (xs : List CodeAction). max most.choices (most_choices xs) ≡ most_choices actions) none h.choices);
    }

pub is_new : (code : Code) (p : ℕ) (most : Uses) (box : Boxed) → AreMostOf code p most → box ≡ record { sent = []; values = []; chosen = []; sends_room = most.sends; values_room = most.values; choices_room = most.choices } → IsNewOutbox code p box
is_new code p most box h e = record {
  empty = record { sent = ap (λ (b : Boxed). b.sent) e; values = ap (λ (b : Boxed). b.values) e; chosen = ap (λ (b : Boxed). b.chosen) e };
  room = record {
    of_process = h.process;
    there = h.there;
    sends_room = ap (λ (b : Boxed). b.sends_room) e ∙ h.most.sends;
    values_room = ap (λ (b : Boxed). b.values_room) e ∙ h.most.values;
    choices_room = ap (λ (b : Boxed). b.choices_room) e ∙ h.most.choices;
  };
}

-- ---- each action has its room

among_greatest : (f : CodeAction → ℕ) (actions : List CodeAction) (k : ℕ) (a : CodeAction) → slice_get actions k ≡ Some a → f a ≤ greatest (map f actions)
among_greatest f [] k a e = cc
among_greatest f (b ∷ bs) zero a e = let same : b ≡ a = cc in omega (arith, ap f same)
among_greatest f (b ∷ bs) (suc k) a e = omega (arith, among_greatest f bs k a e)

pub room_for : (code : Code) (p n : ℕ) (process : CodeProcess) (a : CodeAction) (box : Boxed) → IsOutboxOf code p box → slice_get code.processes p ≡ Some process → slice_get process.actions n ≡ Some a → HasRoomFor code.messages a.body box
room_for code p n process a box h there at =
    let same : h.of_process ≡ process = same_Some h.of_process process (sym h.there ∙ there) in
    let found : slice_get h.of_process.actions n ≡ Some a = subst (λ (q : CodeProcess). slice_get q.actions n ≡ Some a) (sym same) at in
    record {
      sends = omega (arith, h.sends_room, among_greatest (λ (b : CodeAction). sends b.body) h.of_process.actions n a found);
      values = omega (arith, h.values_room, among_greatest (λ (b : CodeAction). values code.messages b.body) h.of_process.actions n a found);
      choices = omega (arith, h.choices_room, among_greatest (λ (b : CodeAction). choices b.body) h.of_process.actions n a found);
    }

-- ---- as the functions find it

-- an element that is read
pub read_at : {A : Type 0} (xs : List A) (i : ℕ) (x : A) → i < length xs → x ≡ get_or xs i x → slice_get xs i ≡ Some x
read_at xs i x inside is = slice_get-get_or xs i x inside ∙ ap Some (sym is)

pub most_is : (code : Code) (p : ℕ) (process : CodeProcess) (messages : List CodeMessage) (actions : List CodeAction) (most : Uses) → slice_get code.processes p ≡ Some process → messages ≡ code.messages → actions ≡ process.actions → AreMost messages actions most
    → AreMostOf code p most
most_is code p process messages actions most there ms as_ h =
    record { process = process; there = there; most = subst (λ (xs : List CodeMessage). AreMost xs process.actions most) ms (subst (λ (xs : List CodeAction). AreMost messages xs most) as_ h) }

pub bodies_are : (code : Code) (p : ℕ) (process : CodeProcess) (messages : List CodeMessage) (actions : List CodeAction) → IsVerified code → slice_get code.processes p ≡ Some process → messages ≡ code.messages → actions ≡ process.actions → AreBodies messages actions
bodies_are code p process messages actions verified there ms as_ =
    subst (λ (xs : List CodeMessage). AreBodies xs actions) (sym ms) (subst (λ (xs : List CodeAction). AreBodies code.messages xs) (sym as_) (are_bodies code p process verified there))
