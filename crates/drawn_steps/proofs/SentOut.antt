-- The values of a send, and what is held after it.
use Rattle.std.proofs.Common.{◌≡◌, ◌+◌, ◌<◌, ◌≤◌, ◌^◌, ℕ, suc, ℤ, true, List, [], ◌∷◌, ◌++◌, map, take, drop, length, append-nil, append_assoc, refl, ap, sym, subst, ◌∙◌, slice_get, Option, Some, None, arith}
use Rattle.std.specs.Prelude.{◌==◌, is_some}
use Rattle.std.specs.List.{list_all}
use Rattle.std.specs.Option.{option_map}
use Rattle.std.proofs.lemmas.Bool.{eqb-true}
use Rattle.std.proofs.lemmas.List.{length-append, length-map}
use Rattle.std.proofs.lemmas.Option.{cond_some, option_and_then_some, same_Some}
use Rattle.tap_base.proofs.ListFacts.{cut_at}
use Rattle.tap_base.specs.declared.wire.WireField.{WireField}
use Rattle.tap_exec.specs.Filling.{field_value, filled}
use Rattle.register_code.specs.declared.code.CodeField.{CodeField}
use Rattle.register_code.specs.declared.code.CodeMessage.{CodeMessage}
use Rattle.register_code.specs.Declarations.{field_fits}
use Rattle.register_code.specs.Fields.{code_field, code_message}
use Rattle.register_code.specs.Instructions.{run_of}
use Rattle.register_code.proofs.Passing.{all_at}
use Rattle.action_code.specs.Using.{fields_in}
use Rattle.code_steps.specs.Holding.{Held}
use Rattle.drawn_steps.specs.Boxes.{Boxed}
use Rattle.drawn_steps.specs.Sending.{CanSend, FillsAll, FillsOne, HasSendRoom, Sends}

-- ---- one field after another

-- the values of the fields before i stand behind those of the start, and so many of the given values are used
pub record IsFilling (fields : List CodeField) (given : List ℤ) (start : Boxed) (i used : ℕ) (now : Boxed) : Type 0 where
  pub values : List ℤ
  pub rest : List ℤ
  pub whole : filled (map code_field fields) given ≡ Some values
  pub left : filled (map code_field (drop i fields)) (drop used given) ≡ Some rest
  pub joined : now.values ++ rest ≡ start.values ++ values
  pub same : now ≡ record start { values = now.values }
  pub counted : length now.values ≡ length start.values + i
  pub few : used ≤ i

something : {A : Type 0} (o : Option A) → is_some o ≡ true → (x : A) × (o ≡ Some x)
something None e = cc
something (Some x) e = (x, refl)

pub filling_begins : (fields : List CodeField) (given : List ℤ) (box : Boxed) → is_some (filled (map code_field fields) given) ≡ true → IsFilling fields given box 0 0 box
filling_begins fields given box e =
    let all = something (filled (map code_field fields) given) e in
    record { values = all.0; rest = all.0; whole = all.1; left = all.1; joined = refl; same = refl; counted = omega arith; few = omega arith }

-- the value of the first of some fields, and what is left
pub record Taken (fixed : Option ℤ) (fs : List WireField) (given rest : List ℤ) : Type 0 where
  pub value : ℤ
  pub behind : List ℤ
  pub taken : field_value fixed given ≡ Some (value, behind)
  pub more : List ℤ
  pub left : filled fs behind ≡ Some more
  pub is : rest ≡ value ∷ more

taken : (f : WireField) (fs : List WireField) (given rest : List ℤ) → filled (f ∷ fs) given ≡ Some rest → Taken f.fixed fs given rest
taken f fs given rest e =
    option_and_then_some _ (field_value f.fixed given) rest e
    (λ v is g. option_and_then_some _ (filled fs v.1) rest g
    (λ more at h. record { value = v.0; behind = v.1; taken = is; more = more; left = at; is = sym (ap (λ (o : Option (List ℤ)). content o) h) })) where
      content : Option (List ℤ) → List ℤ
      content None = []
      content (Some xs) = xs

taken_at : (fields : List CodeField) (given : List ℤ) (start now : Boxed) (i used : ℕ) (f : CodeField) (h : IsFilling fields given start i used now) → slice_get fields i ≡ Some f
    → Taken (code_field f).fixed (map code_field (drop (i + 1) fields)) (drop used given) h.rest
taken_at fields given start now i used f h is =
    let cut : map code_field (drop i fields) ≡ code_field f ∷ map code_field (drop (i + 1) fields) = ap (map code_field) (cut_at fields i f is) in
    taken (code_field f) (map code_field (drop (i + 1) fields)) (drop used given) h.rest (subst (λ (ws : List WireField). filled ws (drop used given) ≡ Some h.rest) cut h.left)

pub can_fill : (fields : List CodeField) (given : List ℤ) (start now : Boxed) (i used : ℕ) (f : CodeField) → IsFilling fields given start i used now → slice_get fields i ≡ Some f
    → is_some (field_value (code_field f).fixed (drop used given)) ≡ true
can_fill fields given start now i used f h is = let there = (taken_at fields given start now i used f h is).taken in rw there refl

one_value_is : (o : Option (ℤ × List ℤ)) (x y : ℤ) (xs ys : List ℤ) → o ≡ Some (x, xs) → o ≡ Some (y, ys) → (x ≡ y) × (xs ≡ ys)
one_value_is o x y xs ys e f = (ap (λ (p : Option (ℤ × List ℤ)). (both p).0) same, ap (λ (p : Option (ℤ × List ℤ)). (both p).1) same) where
  both : Option (ℤ × List ℤ) → ℤ × List ℤ
  both None = (x, xs)
  both (Some z) = z

  same : ◌≡◌ {A = Option (ℤ × List ℤ)} (Some (x, xs)) (Some (y, ys))
  same = sym e ∙ f

pub fills_on : (fields : List CodeField) (given : List ℤ) (start before after : Boxed) (i used used_after : ℕ) (f : CodeField) → IsFilling fields given start i used before → slice_get fields i ≡ Some f
    → FillsOne (code_field f).fixed given used used_after before after → IsFilling fields given start (i + 1) used_after after
fills_on fields given start before after i used used_after f h is one =
    let t = taken_at fields given start before i used f h is in
    let same = one_value_is (field_value (code_field f).fixed (drop used given)) t.value one.value t.behind (drop used_after given) t.taken one.taken in
    let values_are : after.values ≡ before.values ++ one.value ∷ [] = ap (λ (b : Boxed). b.values) one.noted in
    record {
      values = h.values;
      rest = t.more;
      whole = h.whole;
      left = subst (λ (xs : List ℤ). filled (map code_field (drop (i + 1) fields)) xs ≡ Some t.more) same.1 t.left;
      joined = ap (λ (xs : List ℤ). xs ++ t.more) values_are ∙ append_assoc before.values (one.value ∷ []) t.more ∙ ap (λ (x : ℤ). before.values ++ x ∷ t.more) (sym same.0) ∙ ap (λ (xs : List ℤ). before.values ++ xs) (sym t.is) ∙ h.joined;
      same = one.noted ∙ ap (λ (b : Boxed). record b { values = before.values ++ one.value ∷ [] }) h.same ∙ ap (λ (xs : List ℤ). record start { values = xs }) (sym values_are);
      counted = omega (arith, ap length values_are, length-append before.values (one.value ∷ []), h.counted);
      few = omega (arith, h.few, one.few);
    }

drop_all : {A : Type 0} (xs : List A) → drop (length xs) xs ≡ []
drop_all [] = refl
drop_all (x ∷ xs) = drop_all xs

none_left : (given rest : List ℤ) → filled [] given ≡ Some rest → rest ≡ []
none_left [] rest e = cc
none_left (x ∷ xs) rest e = cc

pub fills_all : (fields : List CodeField) (given : List ℤ) (start now : Boxed) (used : ℕ) → IsFilling fields given start (length fields) used now → FillsAll fields given start now
fills_all fields given start now used h =
    let none : h.rest ≡ [] = none_left (drop used given) h.rest (subst (λ (fs : List CodeField). filled (map code_field fs) (drop used given) ≡ Some h.rest) (drop_all fields) h.left) in
    let all : now.values ≡ start.values ++ h.values = sym (append-nil now.values) ∙ ap (λ (xs : List ℤ). now.values ++ xs) (sym none) ∙ h.joined in
    record { values = h.values; filled_is = h.whole; noted = h.same ∙ ap (λ (xs : List ℤ). record start { values = xs }) all }

-- each field has one value
filled_counted : (fs : List WireField) (given values : List ℤ) → filled fs given ≡ Some values → length values ≡ length fs
filled_counted [] [] values e = let none : [] ≡ values = cc in ap length (sym none)
filled_counted [] (x ∷ given) values e = cc
filled_counted (f ∷ fs) given values e = let t = taken f fs given values e in ap length t.is ∙ ap (λ (n : ℕ). suc n) (filled_counted fs t.behind t.more t.left)

-- ---- the send

-- so many are there
pub run_is : (first count : ℕ) (xs free : List ℤ) → run_of first count xs ≡ Some free → (length (take count (drop first xs)) ≡ count) × (free ≡ take count (drop first xs))
run_is first count xs free e =
    let found = cond_some (length (take count (drop first xs)) == count) (take count (drop first xs)) free e in
    (eqb-true (length (take count (drop first xs))) count found.0, sym found.1)

pub sends_on : (messages : List CodeMessage) (message first count to begin n : ℕ) (given : List ℤ) (fields : List CodeField) (before after : Held) (box filled_box box_after : Boxed) → CanSend messages message first count before
    → option_map (λ (m : CodeMessage). m.fields) (slice_get messages message) ≡ Some fields → given ≡ take count (drop first before.registers) → FillsAll fields given box filled_box → begin ≡ length box.values → n ≡ length fields
    → box_after ≡ record filled_box { sent = filled_box.sent ++ record { to = to; message = message; first = begin; count = n } ∷ [] } → after ≡ record before { next = before.next + 1 }
    → Sends messages message first count to before after box box_after
sends_on messages message first count to begin n given fields before after box filled_box box_after can there given_is fills begin_is n_is noted held =
    let declared = can.there in
    let fields_are : can.declared.fields ≡ fields = same_Some can.declared.fields fields (sym (ap (option_map (λ (m : CodeMessage). m.fields)) declared) ∙ there) in
    let free_is : can.free ≡ given = (run_is first count before.registers can.free can.run).1 ∙ sym given_is in
    let filled_is : filled (code_message can.declared) can.free ≡ Some fills.values = ap (λ (fs : List CodeField). filled (map code_field fs) can.free) fields_are ∙ ap (λ (xs : List ℤ). filled (map code_field fields) xs) free_is ∙ fills.filled_is in
    let counted : length fills.values ≡ length fields = filled_counted (map code_field fields) given fills.values fills.filled_is ∙ length-map fields code_field in
    record {
      values = fills.values;
      leads = λ e timers sends choices same.
          let m : slice_get e.messages message ≡ Some can.declared = ap (λ (ms : List CodeMessage). slice_get ms message) same ∙ declared in
          let run = can.run in
          rw (m, run, filled_is, held) refl;
      counted = counted ∙ ap length (sym fields_are) ∙ sym (ap fields_in declared);
      noted = noted ∙ ap (λ (k : ℕ). record filled_box { sent = filled_box.sent ++ record { to = to; message = message; first = k; count = n } ∷ [] }) begin_is
          ∙ ap (λ (k : ℕ). record filled_box { sent = filled_box.sent ++ record { to = to; message = message; first = length box.values; count = k } ∷ [] }) (n_is ∙ sym counted)
          ∙ ap (λ (b : Boxed). record b { sent = b.sent ++ record { to = to; message = message; first = length box.values; count = length fills.values } ∷ [] }) fills.noted;
      held = held;
    }

pub registers_run : (messages : List CodeMessage) (message first count : ℕ) (h : Held) (registers : List ℤ) → CanSend messages message first count h → registers ≡ h.registers → length (take count (drop first registers)) ≡ count
registers_run messages message first count h registers can same = ap (λ (xs : List ℤ). length (take count (drop first xs))) same ∙ (run_is first count h.registers can.free can.run).0

-- what filling a send asks for
pub record Fillable (fields : List CodeField) (given : List ℤ) (box : Boxed) : Type 0 where
  pub fits : list_all field_fits fields ≡ true
  pub enough : is_some (filled (map code_field fields) given) ≡ true
  pub room : length box.values + length fields ≤ box.values_room
  pub small : length box.values + length fields < 2 ^ 32

pub fillable : (messages : List CodeMessage) (message first count : ℕ) (h : Held) (box : Boxed) (fields : List CodeField) (registers given : List ℤ) → CanSend messages message first count h
    → list_all (λ (m : CodeMessage). list_all field_fits m.fields) messages ≡ true → HasSendRoom (fields_in (slice_get messages message)) box
    → option_map (λ (m : CodeMessage). m.fields) (slice_get messages message) ≡ Some fields → registers ≡ h.registers → given ≡ take count (drop first registers) → Fillable fields given box
fillable messages message first count h box fields registers given can fit room there same given_is =
    let declared = can.there in
    let fields_are : can.declared.fields ≡ fields = same_Some can.declared.fields fields (sym (ap (option_map (λ (m : CodeMessage). m.fields)) declared) ∙ there) in
    let many : fields_in (slice_get messages message) ≡ length fields = ap fields_in declared ∙ ap length fields_are in
    let free_is : can.free ≡ given = (run_is first count h.registers can.free can.run).1 ∙ sym (given_is ∙ ap (λ (xs : List ℤ). take count (drop first xs)) same) in
    let filled_is : filled (map code_field fields) given ≡ Some can.values = ap (λ (fs : List CodeField). filled (map code_field fs) given) (sym fields_are) ∙ ap (filled (code_message can.declared)) (sym free_is) ∙ can.filled_is in
    record {
      fits = subst (λ (fs : List CodeField). list_all field_fits fs ≡ true) fields_are (all_at (λ (m : CodeMessage). list_all field_fits m.fields) messages message can.declared fit declared);
      enough = rw filled_is refl;
      room = omega (arith, many, room.values);
      small = omega (arith, many, room.small);
    }
