-- What was sent before, and the choices behind those that are taken, are left as they are.
use Rattle.std.proofs.Common.{◌≡◌, ◌+◌, ◌-◌, ◌^◌, ◌&&◌, ℕ, zero, suc, ℤ, pos, true, if◌then◌else◌, List, [], ◌∷◌, ◌++◌, map, length, refl, ap, sym, subst, ◌∙◌, slice_get, slice_set, Option, Some}
use Rattle.std.specs.Prelude.{nat_lt, int_le, int_lt, unsigned_abs}
use Rattle.std.specs.List.{list_any}
use Rattle.std.specs.Ordering.{int_eq}
use Rattle.std.proofs.lemmas.List.{append-nil, append_assoc}
use Rattle.std.proofs.lemmas.Option.{cond_some, option_and_then_some}
use Rattle.tap_base.specs.declared.tree.Op.{Op}
use Rattle.tap_base.specs.declared.tree.Op.TheVariants as op
use Rattle.tap_base.specs.Interval.{from_to}
use Rattle.tap_base.specs.Option.{◌>>=◌, provided}
use Rattle.tap_base.specs.Ranges.{values_of}
use Rattle.tap_exec.specs.declared.running.Outgoing.{Outgoing}
use Rattle.tap_exec.specs.declared.running.TimerState.{TimerState}
use Rattle.tap_exec.specs.Execution.{takes}
use Rattle.tap_exec.specs.Filling.{filled}
use Rattle.register_code.specs.declared.instr.Instr.{Instr}
use Rattle.register_code.specs.declared.instr.Instr.TheVariants as instr
use Rattle.register_code.specs.Fields.{code_message}
use Rattle.register_code.specs.Instructions.{Setting, Moment, puts, computes, place_at, run_of, chooses, ones, selects, sets, does}
use Rattle.register_code.specs.Running.{Leads, after, step}

-- with other sends before, and other choices left
abbrev pub framed : Moment → List Outgoing → List ℤ → Moment
framed m before rest = record m { sends = before; choices = rest }

-- what a step adds to the sends and takes of the choices, whatever was sent before and whatever choices are behind
pub record Frames (act : Moment → Option Moment) (s t : Moment) : Type 0 where
  pub sent : List Outgoing
  pub taken : List ℤ
  pub sends : t.sends ≡ s.sends ++ sent
  pub front : s.choices ≡ taken ++ t.choices
  pub same : (before : List Outgoing) (rest : List ℤ) → act (framed s before (taken ++ rest)) ≡ Some (framed t (before ++ sent) rest)

-- a step that sends nothing and takes no choice
quiet : (act : Moment → Option Moment) (s t u : Moment) → Some u ≡ Some t → u.sends ≡ s.sends → u.choices ≡ s.choices → ((before : List Outgoing) (rest : List ℤ) → act (framed s before rest) ≡ Some (framed u before rest)) → Frames act s t
quiet act s t u e f g h =
    let is : u ≡ t = cc in
    record {
      sent = [];
      taken = [];
      sends = sym (ap (λ (m : Moment). m.sends) is) ∙ f ∙ sym (append-nil s.sends);
      front = sym g ∙ ap (λ (m : Moment). m.choices) is;
      same = λ before rest. h before rest ∙ ap (λ m. Some (framed m before rest)) is ∙ ap (λ b. Some (framed t b rest)) (sym (append-nil before));
    }

-- what follows from a value that is there
given : {A B : Type 0} (o : Option A) (x : A) (f : A → Option B) (y : Option B) → o ≡ Some x → f x ≡ y → (o >>= f) ≡ y
given o x f y e g = rw e g

puts_frames : (r : ℕ) (x : ℤ) (s t : Moment) → puts r x s ≡ Some t → Frames (puts r x) s t
puts_frames r x s t e = quiet (puts r x) s t (record s { next = s.next + 1; registers = slice_set s.registers r x }) e refl refl (λ before rest. refl)

sets_frames : (k : ℕ) (x : TimerState) (s t : Moment) → sets k x s ≡ Some t → Frames (sets k x) s t
sets_frames k x s t e = quiet (sets k x) s t (record s { next = s.next + 1; timers = slice_set s.timers k x }) e refl refl (λ before rest. refl)

-- a step does what another does, from this moment with any sends and choices
as_step : (act other : Moment → Option Moment) (s t : Moment) → Frames other s t → ((before : List Outgoing) (rest : List ℤ) → act (framed s before rest) ≡ other (framed s before rest)) → Frames act s t
as_step act other s t f h = record { sent = f.sent; taken = f.taken; sends = f.sends; front = f.front; same = λ before rest. h before (f.taken ++ rest) ∙ f.same before rest }

computes_frames : (o : Op) (r a b : ℕ) (s t : Moment) → computes o r a b s ≡ Some t → Frames (computes o r a b) s t
computes_frames o r a b s t e =
    option_and_then_some _ (slice_get s.registers a) t e
    (λ x is f. option_and_then_some _ (slice_get s.registers b) t f (λ y at g. as_step (computes o r a b) _ s t (puts_frames r _ s t g) (λ before rest. rw (is, at) refl)))

taken_front : (options choices : List ℤ) (choice : ℤ × List ℤ) → takes options choices ≡ Some choice → (choices ≡ choice.0 ∷ choice.1) × ((rest : List ℤ) → takes options (choice.0 ∷ rest) ≡ Some (choice.0, rest))
taken_front options [] choice e = cc
taken_front options (y ∷ ys) choice e =
    let is = cond_some (list_any (int_eq y) options) (y, ys) choice e in
    let first : y ≡ choice.0 = ap (λ (z : ℤ × List ℤ). z.0) is.1 in
    let behind : ys ≡ choice.1 = ap (λ (z : ℤ × List ℤ). z.1) is.1 in
    let test : list_any (int_eq choice.0) options ≡ true = subst (λ z. list_any (int_eq z) options ≡ true) first is.0 in
    (ap (λ z. z ∷ ys) first ∙ ap (λ zs. choice.0 ∷ zs) behind, λ rest. rw test refl)

chooses_frames : (r : ℕ) (options : List ℤ) (s t : Moment) → chooses r options s ≡ Some t → Frames (chooses r options) s t
chooses_frames r options s t e =
    option_and_then_some _ (takes options s.choices) t e
    (λ choice is f. let front = taken_front options s.choices choice is in
    let u : record s { next = s.next + 1; registers = slice_set s.registers r choice.0; choices = choice.1 } ≡ t = cc in
    record {
      sent = [];
      taken = choice.0 ∷ [];
      sends = sym (ap (λ (m : Moment). m.sends) u) ∙ sym (append-nil s.sends);
      front = front.0 ∙ ap (λ (m : Moment). choice.0 ∷ m.choices) u;
      same = λ before rest. given (takes options (choice.0 ∷ rest)) (choice.0, rest) _ _ (front.1 rest) (ap (λ m. Some (framed m before rest)) u) ∙ ap (λ b. Some (framed t b rest)) (sym (append-nil before));
    })

selects_frames : (r count : ℕ) (ks : List ℕ) (s t : Moment) → selects r count ks s ≡ Some t → Frames (selects r count ks) s t
selects_frames r count [] s t e = puts_frames r (pos count) s t e
selects_frames r count (k ∷ []) s t e = puts_frames r (pos k) s t e
selects_frames r count (k ∷ l ∷ more) s t e = chooses_frames r (map pos (k ∷ l ∷ more)) s t e

abbrev the_send : ℕ → ℕ → List ℤ → Outgoing
the_send to message values = record { to = to; message = message; values = values }

sends_frames : (act : Moment → Option Moment) (s t : Moment) (o : Outgoing) → Some (record s { next = s.next + 1; sends = s.sends ++ o ∷ [] }) ≡ Some t
    → ((before : List Outgoing) (rest : List ℤ) → act (framed s before rest) ≡ Some (record s { next = s.next + 1; sends = before ++ o ∷ []; choices = rest })) → Frames act s t
sends_frames act s t o e h =
    let u : record s { next = s.next + 1; sends = s.sends ++ o ∷ [] } ≡ t = cc in
    record {
      sent = o ∷ [];
      taken = [];
      sends = sym (ap (λ (m : Moment). m.sends) u);
      front = ap (λ (m : Moment). m.choices) u;
      same = λ before rest. h before rest ∙ ap (λ m. Some (framed m (before ++ o ∷ []) rest)) u;
    }

pub does_frames : (e : Setting) (i : Instr) (s t : Moment) → does e i s ≡ Some t → Frames (does e i) s t
does_frames e (instr.Const r imm) s t h = puts_frames r imm s t h
does_frames e (instr.Copy r a) s t h = option_and_then_some _ (slice_get s.registers a) t h (λ x is f. as_step _ _ s t (puts_frames r x s t f) (λ before rest. rw is refl))
does_frames e (instr.Add r a b) s t h = computes_frames op.Add r a b s t h
does_frames e (instr.Sub r a b) s t h = computes_frames op.Sub r a b s t h
does_frames e (instr.Mul r a b) s t h = computes_frames op.Mul r a b s t h
does_frames e (instr.Div r a b) s t h = computes_frames op.Div r a b s t h
does_frames e (instr.Mod r a b) s t h = computes_frames op.Mod r a b s t h
does_frames e (instr.Min r a b) s t h = computes_frames op.Min r a b s t h
does_frames e (instr.Max r a b) s t h = computes_frames op.Max r a b s t h
does_frames e (instr.Eq r a b) s t h = computes_frames op.Eq r a b s t h
does_frames e (instr.Ne r a b) s t h = computes_frames op.Ne r a b s t h
does_frames e (instr.Lt r a b) s t h = computes_frames op.Lt r a b s t h
does_frames e (instr.Le r a b) s t h = computes_frames op.Le r a b s t h
does_frames e (instr.Load r base length index) s t h =
    option_and_then_some _ (place_at base length index s) t h
    (λ k is f. option_and_then_some _ (slice_get s.registers k) t f
    (λ x at g. as_step _ (puts r x) s t (puts_frames r x s t g) (λ before rest. given (place_at base length index (framed s before rest)) k _ _ is (rw at refl))))
does_frames e (instr.Save base length index a) s t h =
    option_and_then_some _ (place_at base length index s) t h
    (λ k is f. option_and_then_some _ (slice_get s.registers a) t f
    (λ x at g. as_step _ (puts k x) s t (puts_frames k x s t g) (λ before rest. given (place_at base length index (framed s before rest)) k _ _ is (rw at refl))))
does_frames e (instr.Part r field) s t h = option_and_then_some _ (slice_get e.received field) t h (λ x is f. as_step _ (puts r x) s t (puts_frames r x s t f) (λ before rest. rw is refl))
does_frames e (instr.Choose r lo hi) s t h = chooses_frames r (values_of (from_to lo hi)) s t h
does_frames e (instr.Select r first count) s t h =
    option_and_then_some _ (run_of first count s.registers) t h (λ xs is f. as_step _ (selects r count (ones 0 xs)) s t (selects_frames r count (ones 0 xs) s t f) (λ before rest. given (run_of first count s.registers) xs _ _ is refl))
does_frames e (instr.Jump target) s t h = quiet (does e (instr.Jump target)) s t (record s { next = target }) h refl refl (λ before rest. refl)
does_frames e (instr.JumpNe a imm target) s t h =
    option_and_then_some _ (slice_get s.registers a) t h
    (λ x is f. quiet (does e (instr.JumpNe a imm target)) s t (record s { next = if int_eq x imm then s.next + 1 else target }) f refl refl (λ before rest. rw is refl))
does_frames e (instr.Repeat count last) s t h = quiet (does e (instr.Repeat count last)) s t (record s { next = s.next + 1; counters = slice_set s.counters s.next count }) h refl refl (λ before rest. refl)
does_frames e (instr.Again first) s t h =
    option_and_then_some _ (slice_get s.counters first) t h
    (λ left is f. quiet (does e (instr.Again first)) s t (record s { next = if nat_lt 0 (left - 1) then first + 1 else s.next + 1; counters = slice_set s.counters first (left - 1) }) f refl refl (λ before rest. rw is refl))
does_frames e (instr.Send message first count to) s t h =
    option_and_then_some _ (slice_get e.messages message) t h
    (λ m is f. option_and_then_some _ (run_of first count s.registers) t f
    (λ free at g. option_and_then_some _ (filled (code_message m) free) t g
    (λ values all k. sends_frames (does e (instr.Send message first count to)) s t (the_send to message values) k
    (λ before rest. given (slice_get e.messages message) m _ _ is (given (run_of first count s.registers) free _ _ at (given (filled (code_message m) free) values _ _ all refl))))))
does_frames e (instr.Start k a) s t h =
    option_and_then_some _ (slice_get s.registers a) t h
    (λ x is f. option_and_then_some _ (provided (int_le (pos 0) x && int_lt x (pos (2 ^ 32))) (unsigned_abs x)) t f
    (λ delay at g. as_step _ _ s t (sets_frames k _ s t g) (λ before rest. rw (is, at) refl)))
does_frames e (instr.Stop k) s t h = sets_frames k _ s t h

-- ---- many steps

pub leads_frames : (e : Setting) (n : ℕ) (s t : Moment) → Leads e s n t → Frames (after e n) s t
leads_frames e zero s t f = quiet (after e zero) s t s f refl refl (λ before rest. refl)
leads_frames e (suc n) s t f =
    option_and_then_some (after e n) (step e s) t f
    (λ u g h. option_and_then_some _ (slice_get e.instrs s.next) u g
    (λ i is d. let one = does_frames e i s u d in
    let others = leads_frames e n u t h in
    record {
      sent = one.sent ++ others.sent;
      taken = one.taken ++ others.taken;
      sends = others.sends ∙ ap (λ xs. xs ++ others.sent) one.sends ∙ append_assoc s.sends one.sent others.sent;
      front = one.front ∙ ap (λ xs. one.taken ++ xs) others.front ∙ sym (append_assoc one.taken others.taken t.choices);
      same = λ before rest.
          let start : framed s before ((one.taken ++ others.taken) ++ rest) ≡ framed s before (one.taken ++ (others.taken ++ rest)) = ap (framed s before) (append_assoc one.taken others.taken rest) in
          let first : step e (framed s before (one.taken ++ (others.taken ++ rest))) ≡ Some (framed u (before ++ one.sent) (others.taken ++ rest)) = given (slice_get e.instrs s.next) i _ _ is (one.same before (others.taken ++ rest)) in
          ap (after e (suc n)) start ∙ given (step e (framed s before (one.taken ++ (others.taken ++ rest)))) (framed u (before ++ one.sent) (others.taken ++ rest)) (after e n) _ first (others.same (before ++ one.sent) rest)
          ∙ ap (λ b. Some (framed t b rest)) (append_assoc before one.sent others.sent);
    }))
