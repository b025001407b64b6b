-- Simple statements are sound where each expression in them is within its range, whatever fitting cells it reads.
use Rattle.std.proofs.Common.{◌≡◌, ◌≤◌, ◌<◌, ◌+◌, ◌^◌, ℕ, ℤ, pos, negsuc, unsigned_abs, Bool, true, false, ◌&&◌, List, [], ◌∷◌, ◌++◌, length, refl, ap, sym, subst, ◌∙◌, slice_get, slice_set, Option, None, Some, arith, append-nil}
use Rattle.std.specs.Prelude.{◌≤ℤ◌, ◌-ℤ◌, int_le, int_lt, IfSome}
use Rattle.std.specs.List.{list_any}
use Rattle.std.specs.Ordering.{int_eq}
use Rattle.std.proofs.lemmas.Int.{ints}
use Rattle.std.proofs.lemmas.List.{length-set}
use Rattle.tap_base.specs.declared.place.Range.{Range}
use Rattle.tap_base.specs.declared.tree.Expr.{Expr}
use Rattle.tap_base.specs.declared.tree.Target.{Target}
use Rattle.tap_base.specs.declared.wire.WireField.{WireField}
use Rattle.tap_base.specs.Interval.{IsIn, delay_range, index_range}
use Rattle.tap_base.specs.Lists.{Each, EachBoth}
use Rattle.tap_base.specs.Option.{◌>>=◌, each, provided}
use Rattle.tap_base.specs.Ranges.{AreAllIn, ranges_of, values_of}
use Rattle.tap_base.specs.Resolved.{IsArray}
use Rattle.tap_base.proofs.ListFacts.{both_set, each_set}
use Rattle.tap_base.proofs.RangeFacts.{among_values, within_decides}
use Rattle.tap_exec.specs.Running.{Running}
use Rattle.tap_exec.specs.declared.running.TimerState.{TimerState}
use Rattle.tap_exec.specs.declared.running.TimerState.TheVariants as timer
use Rattle.tap_exec.specs.Execution.{assigned, chosen, place_by, place_in, sent, started, takes, value_in, with_timer, writes}
use Rattle.tap_exec.specs.Value.{value_of}
use Rattle.abstract_run.specs.Fits.{IsFitTimer}
use Rattle.byte_meaning.specs.Messages.{Receives}
use Rattle.abstract_run.specs.Safe.{IsFitRunning}
use Rattle.tap_exec.specs.Semantics.{ProcessSemantics, Semantics}
use Rattle.sound_values.specs.Fields.{FillsFields}
use Rattle.sound_bodies.proofs.Runs.{Leads, Runs}

-- what each expression is
abbrev pub Valuing : Type 0
Valuing = Expr → List ℤ → List ℤ → List ℤ → Option ℤ

abbrev pub exact : Valuing
exact e cells inputs received = Some (value_of e cells inputs received)

all_set : (ranges : List Range) (values : List ℤ) (k : ℕ) (range : Range) (x : ℤ) → AreAllIn ranges values → slice_get ranges k ≡ Some range → IsIn x range → AreAllIn ranges (slice_set values k x)
all_set ranges values k range x h there within = record {
  counted = length-set values k x ∙ h.counted;
  within = both_set (λ range y. IsIn y range) ranges values k range x h.within there within;
}

-- each number may be written at its place
abbrev Suits : List Range → ℕ → ℤ → Type 0
Suits ranges k x = (range : Range) × (slice_get ranges k ≡ Some range) × IsIn x range

all_written : (ranges : List Range) (places : List ℕ) (numbers values : List ℤ) → EachBoth (Suits ranges) places numbers → AreAllIn ranges values → AreAllIn ranges (writes places numbers values)
all_written ranges [] numbers values h fit = fit
all_written ranges (k ∷ ks) [] values h fit = fit
all_written ranges (k ∷ ks) (x ∷ xs) values h fit = all_written ranges ks xs (slice_set values k x) h.1 (all_set ranges values k h.0.0 x fit h.0.1 h.0.2)

below : (x : ℤ) (n : ℕ) → pos 0 ≤ℤ x → x ≤ℤ (pos n -ℤ pos 1) → unsigned_abs x < n
below (pos x) n h k = omega (arith, ints)
below (negsuc x) n h k = absurd (omega (arith, ints))

inside_array : (x : ℤ) (n : ℕ) → IsIn x (index_range n) → (int_le (pos 0) x && int_lt x (pos n)) ≡ true
inside_array x n h =
    let l = h.0 in let k = h.1 in
    let a : int_le (pos 0) x ≡ true = grind (arith, ints) in
    let b : int_lt x (pos n) ≡ true = grind (arith, ints) in
    rw (a, b) refl

pub delay_fits : (x : ℤ) → IsIn x delay_range → (int_le (pos 0) x && int_lt x (pos (2 ^ 32))) ≡ true
delay_fits x h =
    let l = h.0 in let k = h.1 in
    let a : int_le (pos 0) x ≡ true = grind (arith, ints) in
    let b : int_lt x (pos (2 ^ 32)) ≡ true = grind (arith, ints) in
    rw (a, b) refl

delay_small : (x : ℤ) → IsIn x delay_range → unsigned_abs x ≤ 4294967295
delay_small (pos x) h = omega (arith, ints, h.1)
delay_small (negsuc x) h = absurd (omega (arith, ints, h.0))

module _ (semantics : Semantics) (p : ℕ) (process : ProcessSemantics) (value : Valuing) (inputs received : List ℤ) where
  abbrev ranges : List Range
  ranges = ranges_of process.vars

  abbrev messages : List (List WireField)
  messages = semantics.messages

  abbrev Run : ℕ → (Running → Option Running) → (Running → Option Running) → Running → Type 0
  Run = Runs semantics p process

  -- whatever fitting cells it reads, it is its value
  abbrev pub IsValued : Expr → Type 0
  IsValued e = (cells : List ℤ) → AreAllIn ranges cells → value e cells inputs received ≡ Some (value_of e cells inputs received)

  -- and this is within a range
  pub record Gives (e : Expr) (range : Range) : Type 0 where
    pub valued : IsValued e
    pub within : (cells : List ℤ) → AreAllIn ranges cells → IsIn (value_of e cells inputs received) range

  -- what a target names is there, and its index is within its array
  pub record Aims (t : Target) : Type 0 where
    pub cells : IsArray ranges t.first t.length t.range
    pub index : IfSome t.index (λ e. Gives e (index_range t.length))

  module _ (r : Running) (fit : IsFitRunning process r) where
    -- the same running, with nothing sent
    leads_with : (t : Running) (n : ℕ) → IsFitRunning process t → t.sends ≡ r.sends → Leads semantics p process n r t
    leads_with t n h e = record { fit = h; sends = []; sent = e ∙ sym (append-nil r.sends); sound = tt; few = omega arith }

    -- ---- targets

    pub record Placed (t : Target) : Type 0 where
      pub place : ℕ
      pub machine : place_in value messages inputs received r t ≡ Some place
      pub exactly : place_in exact messages inputs received r t ≡ Some place
      pub range : slice_get ranges place ≡ Some t.range

    pub placed : (t : Target) → Aims t → Placed t
    placed t h = by_index t.index refl h.index where
      by_index : (i : Option Expr) → t.index ≡ i → IfSome i (λ e. Gives e (index_range t.length)) → Placed t
      by_index None is x =
          let start : t.first + 0 ≡ t.first = omega arith in
          record {
            place = t.first;
            machine = ap (λ i. place_by value messages inputs received r t i) is;
            exactly = ap (λ i. place_by exact messages inputs received r t i) is;
            range = subst (λ k. slice_get ranges k ≡ Some t.range) start (h.cells.each 0 (omega (arith, h.cells.some)));
          }
      by_index (Some i) is x =
          let k = value_of i r.cells inputs received in
          let within = x.within r.cells fit.cells in
          let there : provided (int_le (pos 0) k && int_lt k (pos t.length)) (t.first + unsigned_abs k) ≡ Some (t.first + unsigned_abs k) =
          ap (λ b. provided b (t.first + unsigned_abs k)) (inside_array k t.length within) in
          record {
            place = t.first + unsigned_abs k;
            machine = ap (λ i. place_by value messages inputs received r t i) is
                ∙ ap (λ o. o >>= λ k. provided (int_le (pos 0) k && int_lt k (pos t.length)) (t.first + unsigned_abs k)) (x.valued r.cells fit.cells)
                ∙ there;
            exactly = ap (λ i. place_by exact messages inputs received r t i) is ∙ there;
            range = h.cells.each (unsigned_abs k) (below k t.length within.0 within.1);
          }

    -- ---- assignments

    pub record Assigns (targets : List Target) (values : List Expr) : Type 0 where
      pub places : List ℕ
      pub numbers : List ℤ
      pub places_machine : each (place_in value messages inputs received r) targets ≡ Some places
      pub places_exact : each (place_in exact messages inputs received r) targets ≡ Some places
      pub numbers_machine : each (value_in value messages inputs received r) values ≡ Some numbers
      pub numbers_exact : each (value_in exact messages inputs received r) values ≡ Some numbers
      pub suit : EachBoth (Suits ranges) places numbers

    pub assigns : (targets : List Target) (values : List Expr) → length targets ≡ length values → Each Aims targets → EachBoth (λ (t : Target) (e : Expr). Gives e t.range) targets values → Assigns targets values
    assigns [] [] l h k = record { places = []; numbers = []; places_machine = refl; places_exact = refl; numbers_machine = refl; numbers_exact = refl; suit = tt }
    assigns [] (e ∷ es) l h k = absurd (omega (arith, l))
    assigns (t ∷ ts) [] l h k = absurd (omega (arith, l))
    assigns (t ∷ ts) (e ∷ es) l h k =
        let rest = assigns ts es (omega (arith, l)) h.1 k.1 in
        let place = placed t h.0 in
        let x = value_of e r.cells inputs received in
        let pm = place.machine in let pe = place.exactly in let qm = rest.places_machine in let qe = rest.places_exact in
        let nm = k.0.valued r.cells fit.cells in let om = rest.numbers_machine in let oe = rest.numbers_exact in
        record {
          places = place.place ∷ rest.places;
          numbers = x ∷ rest.numbers;
          places_machine = rw (pm, qm) refl;
          places_exact = rw (pe, qe) refl;
          numbers_machine = rw (nm, om) refl;
          numbers_exact = rw oe refl;
          suit = ((t.range, place.range, k.0.within r.cells fit.cells), rest.suit);
        }

    pub assignment_runs : (targets : List Target) (values : List Expr) → length targets ≡ length values → Each Aims targets → EachBoth (λ (t : Target) (e : Expr). Gives e t.range) targets values
        → Run 0 (assigned value messages inputs received targets values) (assigned exact messages inputs received targets values) r
    assignment_runs targets values l h k =
        let a = assigns targets values l h k in
        let pm = a.places_machine in let pe = a.places_exact in let nm = a.numbers_machine in let ne = a.numbers_exact in
        let t : Running = record r { cells = writes a.places a.numbers r.cells } in
        let machine : assigned value messages inputs received targets values r ≡ Some t = rw (pm, nm) refl in
        let exactly : assigned exact messages inputs received targets values r ≡ Some t = rw (pe, ne) refl in
        record {
          same = machine ∙ sym exactly;
          leads = subst (λ o. IfSome o (Leads semantics p process 0 r)) (sym exactly)
              (leads_with t 0 (record { cells = all_written ranges a.places a.numbers r.cells a.suit fit.cells; counted = fit.counted; timers = fit.timers }) refl);
        }

    -- ---- choices

    pub choice_runs : (t : Target) → Aims t → Run 0 (chosen value messages inputs received t) (chosen exact messages inputs received t) r
    choice_runs t h =
        let place = placed t h in
        let pm = place.machine in let pe = place.exactly in
        let after : ℤ × List ℤ → Option Running = λ c. Some (record r { cells = slice_set r.cells place.place c.0; choices = c.1 }) in
        let machine : chosen value messages inputs received t r ≡ (takes (values_of t.range) r.choices >>= after) = rw pm refl in
        let exactly : chosen exact messages inputs received t r ≡ (takes (values_of t.range) r.choices >>= after) = rw pe refl in
        record {
          same = machine ∙ sym exactly;
          leads = subst (λ o. IfSome o (Leads semantics p process 0 r)) (sym exactly) (by_choices t place r.choices);
        } where
          written : (t : Target) (place : Placed t) (x : ℤ) (rest : List ℤ) → IsIn x t.range → Leads semantics p process 0 r (record r { cells = slice_set r.cells place.place x; choices = rest })
          written t place x rest h = record {
            fit = record { cells = all_set ranges r.cells place.place t.range x fit.cells place.range h; counted = fit.counted; timers = fit.timers };
            sends = [];
            sent = sym (append-nil r.sends);
            sound = tt;
            few = omega arith;
          }

          by_test : (t : Target) (place : Placed t) (x : ℤ) (rest : List ℤ) (b : Bool) → list_any (int_eq x) (values_of t.range) ≡ b
              → IfSome (let c : ℤ × List ℤ = (x, rest) in provided b c >>= λ c. Some (record r { cells = slice_set r.cells place.place c.0; choices = c.1 })) (Leads semantics p process 0 r)
          by_test t place x rest true e = written t place x rest ((within_decides t.range x).0 (sym (among_values t.range x) ∙ e))
          by_test t place x rest false e = tt

          by_choices : (t : Target) (place : Placed t) (xs : List ℤ) → IfSome (takes (values_of t.range) xs >>= λ c. Some (record r { cells = slice_set r.cells place.place c.0; choices = c.1 })) (Leads semantics p process 0 r)
          by_choices t place [] = tt
          by_choices t place (x ∷ rest) = by_test t place x rest (list_any (int_eq x) (values_of t.range)) refl

    -- ---- sends

    -- the numbers that are given, one within each range
    pub record Given (wanted : List Range) (values : List Expr) : Type 0 where
      pub numbers : List ℤ
      pub machine : each (value_in value messages inputs received r) values ≡ Some numbers
      pub exactly : each (value_in exact messages inputs received r) values ≡ Some numbers
      pub fitting : AreAllIn wanted numbers

    pub gives : (wanted : List Range) (values : List Expr) → length values ≡ length wanted → EachBoth (λ (range : Range) (e : Expr). Gives e range) wanted values → Given wanted values
    gives [] [] l h = record { numbers = []; machine = refl; exactly = refl; fitting = record { counted = refl; within = tt } }
    gives [] (e ∷ es) l h = absurd (omega (arith, l))
    gives (f ∷ fs) [] l h = absurd (omega (arith, l))
    gives (f ∷ fs) (e ∷ es) l h =
        let rest = gives fs es (omega (arith, l)) h.1 in
        let x = value_of e r.cells inputs received in
        let m = h.0.valued r.cells fit.cells in let n = rest.machine in let v = rest.exactly in
        record {
          numbers = x ∷ rest.numbers;
          machine = rw (m, n) refl;
          exactly = rw v refl;
          fitting = record { counted = omega (arith, rest.fitting.counted); within = (h.0.within r.cells fit.cells, rest.fitting.within) };
        }

    pub send_runs : (m : ℕ) (values : List Expr) (q : ℕ) (fields : List WireField) (wanted : List Range) → slice_get messages m ≡ Some fields → length values ≡ length wanted
        → EachBoth (λ (range : Range) (e : Expr). Gives e range) wanted values → ((given : List ℤ) → AreAllIn wanted given → FillsFields fields given) → (q ≡ p → ⊥) → Receives semantics q m p
        → Run 1 (sent value messages inputs received m values q) (sent exact messages inputs received m values q) r
    send_runs m values q fields wanted declared l h fills other receiver =
        let g = gives wanted values l h in
        let filling = fills g.numbers g.fitting in
        let gm = g.machine in let ge = g.exactly in let fl = filling.fills in
        let t : Running = record r { sends = r.sends ++ record { to = q; message = m; values = filling.values } ∷ [] } in
        let machine : sent value messages inputs received m values q r ≡ Some t = rw (declared, gm, fl) refl in
        let exactly : sent exact messages inputs received m values q r ≡ Some t = rw (declared, ge, fl) refl in
        record {
          same = machine ∙ sym exactly;
          leads = subst (λ o. IfSome o (Leads semantics p process 1 r)) (sym exactly) (record {
            fit = record { cells = fit.cells; counted = fit.counted; timers = fit.timers };
            sends = record { to = q; message = m; values = filling.values } ∷ [];
            sent = refl;
            sound = (record { message = record { received = receiver; fitting = record { fields = fields; declared = declared; fitting = filling.fitting } }; other = other }, tt);
            few = omega arith;
          });
        }

    -- ---- timers

    pub timer_set : (k : ℕ) (state : TimerState) → IsFitTimer state → Leads semantics p process 0 r (with_timer k state r)
    timer_set k state h = leads_with (with_timer k state r) 0 (record {
      cells = fit.cells;
      counted = length-set r.timers k state ∙ fit.counted;
      timers = each_set IsFitTimer r.timers k state fit.timers h;
    }) refl

    pub start_runs : (k : ℕ) (delay : Expr) → Gives delay delay_range → Run 0 (started value messages inputs received k delay) (started exact messages inputs received k delay) r
    start_runs k delay h =
        let x = value_of delay r.cells inputs received in
        let within = h.within r.cells fit.cells in
        let can = delay_fits x within in
        let t = with_timer k (timer.Armed (unsigned_abs x)) r in
        let m = h.valued r.cells fit.cells in
        let exactly : started exact messages inputs received k delay r ≡ Some t = ap (λ b. provided b (unsigned_abs x) >>= λ d. Some (with_timer k (timer.Armed d) r)) can in
        let machine : started value messages inputs received k delay r ≡ started exact messages inputs received k delay r = rw m refl in
        record {
          same = machine;
          leads = subst (λ o. IfSome o (Leads semantics p process 0 r)) (sym exactly) (timer_set k (timer.Armed (unsigned_abs x)) (delay_small x within));
        }
