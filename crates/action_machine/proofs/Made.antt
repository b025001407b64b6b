-- A machine as it is made is one of its process.
use Rattle.std.proofs.Common.{◌≡◌, ◌+◌, ◌≤◌, ℕ, ℤ, List, [], ◌∷◌, ◌++◌, map, replicate, take, drop, length, append-nil, append_assoc, refl, ap, sym, subst, ◌∙◌, slice_get, Some, arith}
use Rattle.std.specs.Prelude.{max}
use Rattle.std.specs.Option.{option_map}
use Rattle.std.proofs.lemmas.List.{length-append, length-replicate, take-append-le, take_all}
use Rattle.std.proofs.Math.Seq.{drop-append_seam}
use Rattle.std.proofs.lemmas.Option.{slice_get-map}
use Rattle.tap_base.specs.declared.system.Var.{Var}
use Rattle.tap_base.specs.Interval.{IsIn}
use Rattle.tap_base.specs.Lists.{Each}
use Rattle.tap_base.specs.Ranges.{AreAllIn, AreIn, ranges_of}
use Rattle.tap_base.proofs.ListFacts.{both_append, both_replicate, each_at}
use Rattle.tap_exec.specs.Semantics.{ProcessSemantics}
use Rattle.abstract_run.specs.Opening.{opening_cells}
use Rattle.register_code.specs.declared.code.Code.{Code}
use Rattle.register_code.specs.declared.code.CodeAction.{CodeAction}
use Rattle.register_code.specs.declared.code.CodeVariable.{CodeVariable}
use Rattle.register_code.specs.declared.code.CodeProcess.{CodeProcess}
use Rattle.register_code.specs.CodeSemantics.{code_process}
use Rattle.register_code.specs.Registers.{cell_ranges, input_ranges, variable_of}
use Rattle.register_code.specs.Verified.{IsVerified}
use Rattle.sound_code.proofs.Begins.{code_begins_in_range}
use Rattle.code_steps.specs.Holding.{Held}
use Rattle.action_machine.specs.Machines.{AreAtMost, InputsFit, IsNew, Placed, counters_of, initial_cells, temporaries_of}
use Rattle.action_machine.proofs.Placing.{one_found}

cells_counted : (vars : List Var) → length (opening_cells vars) ≡ length (ranges_of vars)
cells_counted [] = refl
cells_counted (v ∷ vs) =
    length-append (replicate v.cells v.initial) (opening_cells vs)
    ∙ omega (arith, cells_counted vs, length-replicate v.cells v.initial, length-replicate v.cells v.range)
    ∙ sym (length-append (replicate v.cells v.range) (ranges_of vs))

cells_within : (vars : List Var) → Each (λ (v : Var). IsIn v.initial v.range) vars → AreIn (ranges_of vars) (opening_cells vars)
cells_within [] starts = tt
cells_within (v ∷ vs) starts =
    both_append (λ range x. IsIn x range) (replicate v.cells v.range) (ranges_of vs) (replicate v.cells v.initial) (opening_cells vs)
    (length-replicate v.cells v.range ∙ sym (length-replicate v.cells v.initial))
    (both_replicate (λ range x. IsIn x range) v.cells v.range v.initial starts.0)
    (cells_within vs starts.1)

cells_fit : (code : Code) (n : ℕ) (process : CodeProcess) → IsVerified code → slice_get code.processes n ≡ Some process → AreAllIn (cell_ranges process) (initial_cells process)
cells_fit code n process verified there =
    let begins = code_begins_in_range code verified in
    let said : slice_get (map (code_process code) code.processes) n ≡ Some (code_process code process) = slice_get-map (code_process code) code.processes n ∙ ap (option_map (code_process code)) there in
    let starts = each_at (λ (p : ProcessSemantics). Each (λ (v : Var). IsIn v.initial v.range) p.vars) (map (code_process code) code.processes) n (code_process code process) begins.initials said in
    record { counted = cells_counted (map variable_of process.variables); within = cells_within (map variable_of process.variables) starts }

-- what the machine is made of
pub record IsMade (process : CodeProcess) (given : List ℤ) (number : ℕ) (m : Placed) : Type 0 where
  pub of_process : m.process ≡ number
  pub cells : m.cells ≡ initial_cells process
  pub inputs_are : m.inputs ≡ given
  pub temporaries : ℕ
  pub counters : ℕ
  pub all_temporaries : AreAtMost temporaries_of process.actions temporaries
  pub all_counters : AreAtMost counters_of process.actions counters
  pub registers_room : length (initial_cells process) + length given + temporaries ≤ m.registers_room
  pub counters_room : counters ≤ m.counters_room

most_is : (a b n : ℕ) → max a b ≤ n → (a ≤ n) × (b ≤ n)
most_is a b n h = (omega (arith, h), omega (arith, h))

pub is_new : (code : Code) (number : ℕ) (given : List ℤ) (process : CodeProcess) (m : Placed) → IsVerified code → slice_get code.processes number ≡ Some process → InputsFit code number given → IsMade process given number m → IsNew code number given m
is_new code number given process m verified there fit made =
    let same : fit.process ≡ process = one_found (slice_get code.processes number) fit.process process fit.there there in
    let number_is = made.of_process in
    record {
      machine = record {
        process = process;
        there = subst (λ (n : ℕ). slice_get code.processes n ≡ Some process) (sym number_is) there;
        cells = subst (AreAllIn (cell_ranges process)) (sym made.cells) (cells_fit code number process verified there);
        inputs = subst (AreAllIn (input_ranges process)) (sym made.inputs_are) (subst (λ (p : CodeProcess). AreAllIn (input_ranges p) given) same fit.fit);
        room = λ k action at. record {
          registers = omega (arith, ap length made.cells, ap length made.inputs_are, made.registers_room, each_at (λ a. temporaries_of a ≤ made.temporaries) process.actions k action made.all_temporaries at);
          guard = omega (arith, made.counters_room, (most_is (length action.guard) (length action.body) made.counters (each_at (λ a. counters_of a ≤ made.counters) process.actions k action made.all_counters at)).0);
          body = omega (arith, made.counters_room, (most_is (length action.guard) (length action.body) made.counters (each_at (λ a. counters_of a ≤ made.counters) process.actions k action made.all_counters at)).1);
        };
      };
      of_process = number_is;
      initial = λ p at. made.cells ∙ ap initial_cells (one_found (slice_get code.processes number) process p there at);
      inputs_are = made.inputs_are;
    }

-- the cells of one variable more
pub opening_more : (vs : List CodeVariable) (v : CodeVariable) → opening_cells (map variable_of (vs ++ v ∷ [])) ≡ opening_cells (map variable_of vs) ++ replicate v.cells v.initial
opening_more [] v = append-nil (replicate v.cells v.initial)
opening_more (w ∷ ws) v = ap (λ (xs : List ℤ). replicate w.cells w.initial ++ xs) (opening_more ws v) ∙ sym (append_assoc (replicate w.cells w.initial) (opening_cells (map variable_of ws)) (replicate v.cells v.initial))

-- a machine of these registers: the cells first, then the inputs
pub made : (process : CodeProcess) (number cells kept : ℕ) (given first registers : List ℤ) (h : Held) (variables : List CodeVariable) (actions : List CodeAction) (temporaries counters : ℕ)
    → variables ≡ process.variables → actions ≡ process.actions → first ≡ opening_cells (map variable_of variables) → cells ≡ length first → registers ≡ first ++ given → kept ≡ length registers → h.registers ≡ registers
    → AreAtMost temporaries_of actions temporaries → AreAtMost counters_of actions counters → length registers + temporaries ≤ h.registers_room → counters ≤ h.counters_room
    → IsMade process given number (record { process = number; cells = take cells (take kept h.registers); inputs = drop cells (take kept h.registers); registers_room = h.registers_room; counters_room = h.counters_room })
made process number cells kept given first registers h variables actions temporaries counters vs as_ firsts cells_is registers_is kept_is held few few_counters room counters_room = record {
  of_process = refl;
  cells = ap (take cells) whole ∙ ap (λ (n : ℕ). take n (first ++ given)) cells_is ∙ take-append-le (length first) first given (omega arith) ∙ take_all (length first) first (omega arith) ∙ initial;
  inputs_are = ap (drop cells) whole ∙ ap (λ (n : ℕ). drop n (first ++ given)) cells_is ∙ drop-append_seam first given;
  temporaries = temporaries;
  counters = counters;
  all_temporaries = subst (λ (xs : List CodeAction). AreAtMost temporaries_of xs temporaries) as_ few;
  all_counters = subst (λ (xs : List CodeAction). AreAtMost counters_of xs counters) as_ few_counters;
  registers_room = omega (arith, ap length initial, ap length registers_is, length-append first given, room);
  counters_room = counters_room;
} where
  initial : first ≡ initial_cells process
  initial = firsts ∙ ap (λ (xs : List CodeVariable). opening_cells (map variable_of xs)) vs

  whole : take kept h.registers ≡ first ++ given
  whole = ap (take kept) held ∙ take_all kept registers (omega (arith, kept_is)) ∙ registers_is
