-- What is sent fits its message and its receiver.
use Rattle.std.proofs.Common.{◌≡◌, ◌+◌, ◌<◌, ◌&&◌, ◌==◌, ℕ, suc, ℤ, pos, Bool, true, false, List, [], ◌∷◌, ◌++◌, length, take, drop, ◌⊎◌, inl, inr, refl, ap, sym, subst, ◌∙◌, slice_get, Option, Some, None, arith, map}
use Rattle.std.specs.Prelude.{nat_lt, nat_le}
use Rattle.std.specs.List.{list_any}
use Rattle.std.specs.Option.{option_map}
use Rattle.std.proofs.lemmas.Bool.{and_parts, or_cases, ltb-true, leb-true, eqb-true, eq-eqb, true≢false}
use Rattle.std.proofs.lemmas.Int.{ints}
use Rattle.std.proofs.lemmas.List.{length-take, length-drop}
use Rattle.std.proofs.lemmas.Option.{slice_get-map}
use Rattle.tap_base.specs.declared.place.Range.{Range}
use Rattle.tap_base.specs.Interval.{IsIn, from_to, field_range}
use Rattle.tap_base.specs.Option.{◌>>=◌}
use Rattle.tap_base.proofs.ListFacts.{each_append, element_at}
use Rattle.register_code.specs.declared.code.CodeField.{CodeField}
use Rattle.register_code.specs.declared.instr.Instr.{Instr}
use Rattle.sound_code.specs.Fitting.{FitsSite, SendFits}
use Rattle.register_code.specs.Instructions.{Moment, run_of}
use Rattle.register_code.specs.Naming.{are_registers, named}
use Rattle.register_code.specs.Sending.{fit_fields, free_fields, is_receive}
use Rattle.register_code.specs.Sites.{Site, holds_of, lies_in}
use Rattle.sound_code.proofs.Fitted.{both_drop, both_take, lies_on}
use Rattle.tap_base.specs.Ranges.{AreAllIn}
use Rattle.tap_exec.specs.Filling.{filled}
use Rattle.byte_meaning.specs.Messages.{AreFields, Receives}
use Rattle.tap_exec.specs.Semantics.{ProcessSemantics, receive}
use Rattle.register_code.specs.declared.code.Code.{Code}
use Rattle.register_code.specs.declared.code.CodeAction.{CodeAction}
use Rattle.register_code.specs.declared.code.CodeKind.{CodeKind}
use Rattle.register_code.specs.declared.code.CodeKind.TheVariants as kind
use Rattle.register_code.specs.declared.code.CodeProcess.{CodeProcess}
use Rattle.register_code.specs.CodeSemantics.{code_action, code_guard, code_process, code_semantics}
use Rattle.register_code.specs.Fields.{code_field, code_message}
use Rattle.sound_code.proofs.Named.{Outcome}
use Rattle.sound_code.proofs.Chosen.{run_there}

-- ---- sends

-- the values of a message, by numbers for its free fields
pub record Filled (fields : List CodeField) (xs : List ℤ) : Type 0 where
  pub values : List ℤ
  pub filled_is : filled (map code_field fields) xs ≡ Some values
  pub fit : AreFields (map code_field fields) values

one_field : (f : CodeField) (fs : List CodeField) (x : ℤ) (values : List ℤ) → IsIn x (field_range (code_field f)) → AreFields (map code_field fs) values → AreFields (map code_field (f ∷ fs)) (x ∷ values)
one_field f fs x values h rest = record { counted = ap (λ n. suc n) rest.counted; within = (h, rest.within) }

free_filled : (f : CodeField) (fs : List CodeField) (y : ℤ) (ys values : List ℤ) → f.fixed ≡ None → filled (map code_field fs) ys ≡ Some values → filled (map code_field (f ∷ fs)) (y ∷ ys) ≡ Some (y ∷ values)
free_filled f fs y ys values e h = rw (e, h) refl

fills : (fields : List CodeField) (ranges : List Range) (xs : List ℤ) → fit_fields (free_fields fields) ranges ≡ true → AreAllIn ranges xs → Filled fields xs
fills [] [] [] h w = record { values = []; filled_is = refl; fit = record { counted = refl; within = tt } }
fills [] [] (x ∷ xs) h w = absurd (omega (arith, w.counted))
fills [] (r ∷ rs) xs h w = cc
fills (f ∷ fs) ranges xs h w = by_kind f.fixed refl ranges xs h w (λ rs ys. fills fs rs ys) where
  first_is : (r : Range) (rs : List Range) → f.fixed ≡ None → fit_fields (free_fields (f ∷ fs)) (r ∷ rs) ≡ true → (lies_in r (field_range (code_field f)) && fit_fields (free_fields fs) rs) ≡ true
  first_is r rs is k = rw is (rw is at k)

  by_kind : (fixed : Option ℕ) → f.fixed ≡ fixed → (rs : List Range) (ys : List ℤ) → fit_fields (free_fields (f ∷ fs)) rs ≡ true → AreAllIn rs ys
      → ((us : List Range) (zs : List ℤ) → fit_fields (free_fields fs) us ≡ true → AreAllIn us zs → Filled fs zs) → Filled (f ∷ fs) ys
  by_kind (Some v) is rs ys k m rest =
      let others = rest rs ys (rw is at k) m in
      let others_is = others.filled_is in
      let range_is : field_range (code_field f) ≡ from_to (pos v) (pos v) = rw is refl in
      let here : IsIn (pos v) (field_range (code_field f)) = subst (IsIn (pos v)) (sym range_is) (omega (arith, ints), omega (arith, ints)) in
      record { values = pos v ∷ others.values; filled_is = rw (is, others_is) refl; fit = one_field f fs (pos v) others.values here others.fit }
  by_kind None is [] ys k m rest = absurd (true≢false (sym (rw is at k)))
  by_kind None is (r ∷ rs) [] k m rest = absurd (omega (arith, m.counted))
  by_kind None is (r ∷ rs) (y ∷ ys) k m rest =
      let both : (lies_in r (field_range (code_field f)) && fit_fields (free_fields fs) rs) ≡ true = first_is r rs is k in
      let parts = and_parts (lies_in r (field_range (code_field f))) (fit_fields (free_fields fs) rs) both in
      let others = rest rs ys parts.1 (record { counted = omega (arith, m.counted); within = m.within.1 }) in
      record { values = y ∷ others.values; filled_is = free_filled f fs y ys others.values is others.filled_is; fit = one_field f fs y others.values (lies_on r (field_range (code_field f)) y parts.0 m.within.0) others.fit }

-- ---- who receives

-- the first element that passes
pub record Passes {A : Type 0} (test : A → Bool) (xs : List A) : Type 0 where
  pub number : ℕ
  pub one : A
  pub there : slice_get xs number ≡ Some one
  pub passes : test one ≡ true

any_passes : {A : Type 0} (test : A → Bool) (xs : List A) → list_any test xs ≡ true → Passes test xs
any_passes test [] e = cc
any_passes test (x ∷ xs) e = by_test (or_cases (test x) (list_any test xs) e) (λ f. any_passes test xs f) where
  by_test : (test x ≡ true) ⊎ (list_any test xs ≡ true) → (list_any test xs ≡ true → Passes test xs) → Passes test (x ∷ xs)
  by_test (inl here) rest = record { number = 0; one = x; there = refl; passes = here }
  by_test (inr later) rest = let found = rest later in record { number = suc found.number; one = found.one; there = found.there; passes = found.passes }

receive_is : (code : Code) (p : CodeProcess) (action : CodeAction) (m q : ℕ) → is_receive m q action ≡ true → code_guard code p action ≡ receive m q
receive_is code p action m q e = by_kind action.kind refl where
  by_kind : (k : CodeKind) → action.kind ≡ k → code_guard code p action ≡ receive m q
  by_kind kind.Local is = absurd (true≢false (sym e ∙ rw is refl))
  by_kind kind.Timeout is = absurd (true≢false (sym e ∙ rw is refl))
  by_kind kind.Receive is =
      let both : (action.a == m && action.b == q) ≡ true = rw is at e in
      let parts = and_parts (action.a == m) (action.b == q) both in
      rw is (ap (λ k. receive k action.b) (eqb-true action.a m parts.0) ∙ ap (receive m) (eqb-true action.b q parts.1))

receives : (code : Code) (to m q : ℕ) (receiver : CodeProcess) → slice_get code.processes to ≡ Some receiver → list_any (is_receive m q) receiver.actions ≡ true → Receives (code_semantics code) to m q
receives code to m q receiver named heard =
    let found = any_passes (is_receive m q) receiver.actions heard in
    let process : slice_get (map (code_process code) code.processes) to ≡ Some (code_process code receiver) = slice_get-map (code_process code) code.processes to ∙ ap (option_map (code_process code)) named in
    let action : slice_get (map (code_action code receiver) receiver.actions) found.number ≡ Some (code_action code receiver found.one) = slice_get-map (code_action code receiver) receiver.actions found.number ∙ ap (option_map (code_action code receiver)) found.there in
    record {
      number = found.number;
      action = code_action code receiver found.one;
      there = ap (λ o. o >>= λ (p : ProcessSemantics). slice_get p.actions found.number) process ∙ action;
      guard = receive_is code receiver found.one m q found.passes;
    }

-- ---- a send

pub send_fits : (s : Site) (m : Moment) (i : Instr) (message first count to : ℕ) → FitsSite s m → m.next < length s.instrs → are_registers s first count ≡ true → nat_lt message (length s.messages) ≡ true
    → holds_of (slice_get s.messages message) (λ declared. fit_fields (free_fields declared.fields) (take count (drop first s.ranges))) ≡ true
    → nat_lt to (length s.processes) ≡ true → (to == s.process) ≡ false → holds_of (slice_get s.processes to) (λ p. list_any (is_receive message s.process) p.actions) ≡ true
    → Outcome s i m (slice_get s.messages message >>= λ declared. run_of first count m.registers >>= λ free. filled (code_message declared) free >>= λ values.
    Some (record m { next = m.next + 1; sends = m.sends ++ record { to = to; message = message; values = values } ∷ [] }))
send_fits s m i message first count to fits going registers named kept known other heard =
    let declared = element_at s.messages message (ltb-true message (length s.messages) named) in
    let declared_is = declared.1 in
    let receiver = element_at s.processes to (ltb-true to (length s.processes) known) in
    let receiver_is = receiver.1 in
    let heard_there : list_any (is_receive message s.process) receiver.0.actions ≡ true = rw receiver_is at heard in
    let fit : fit_fields (free_fields declared.0.fields) (take count (drop first s.ranges)) ≡ true = rw declared_is at kept in
    let numbers = take count (drop first m.registers) in
    let within_them = both_take _ count (drop first s.ranges) (drop first m.registers) (both_drop _ first s.ranges m.registers (sym fits.registers.counted) fits.registers.within) in
    let sizes : length numbers ≡ length (take count (drop first s.ranges)) = omega (arith, length-take count (drop first m.registers), length-drop first m.registers, length-take count (drop first s.ranges), length-drop first s.ranges, fits.registers.counted) in
    let all = fills declared.0.fields (take count (drop first s.ranges)) numbers fit (record { counted = sizes; within = within_them }) in
    let run = run_is first count registers in
    let filled_is = all.filled_is in
    let apart : to ≡ s.process → ⊥ = λ same. true≢false (sym (eq-eqb to s.process same) ∙ other) in
    let declared_there : slice_get (map code_message s.messages) message ≡ Some (code_message declared.0) = slice_get-map code_message s.messages message ∙ ap (option_map code_message) declared.1 in
    rw (declared_is, run, filled_is) (record {
      registers = fits.registers;
      counters = fits.counters;
      timers = fits.timers;
      delays = fits.delays;
      sends = each_append (SendFits s) m.sends (record { to = to; message = message; values = all.values } ∷ []) fits.sends (
        record {
          message = record {
            received = receives (record { messages = s.messages; processes = s.processes }) to message s.process receiver.0 receiver.1 heard_there;
            fitting = record { fields = code_message declared.0; declared = declared_there; fitting = all.fit };
          };
          other = apart;
        },
        tt,
      );
      inside = omega (arith, going);
    }) where
      run_is : (b n : ℕ) → are_registers s b n ≡ true → run_of b n m.registers ≡ Some (take n (drop b m.registers))
      run_is b n e = by_size (or_cases (n == 0) (nat_le (b + n) (length s.ranges)) e) where
        by_size : ((n == 0) ≡ true) ⊎ (nat_le (b + n) (length s.ranges) ≡ true) → run_of b n m.registers ≡ Some (take n (drop b m.registers))
        by_size (inl none) = let zero_is : n ≡ 0 = eqb-true n 0 none in subst (λ k. run_of b k m.registers ≡ Some (take k (drop b m.registers))) (sym zero_is) refl
        by_size (inr some) = (run_there b n m.registers (omega (arith, leb-true (b + n) (length s.ranges) some, fits.registers.counted))).0
