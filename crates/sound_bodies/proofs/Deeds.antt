-- A deed that is resolved and judged right is sound.
use Rattle.std.proofs.Common.{◌≡◌, ℕ, ℤ, List, [], ◌∷◌, map, ap, sym, subst, ◌∙◌, slice_get, Option, None, Some, arith}
use Rattle.std.specs.Prelude.{IfSome}
use Rattle.std.specs.Option.{option_map}
use Rattle.std.proofs.lemmas.Int.{ints}
use Rattle.std.proofs.lemmas.List.{length-map}
use Rattle.std.proofs.lemmas.Option.{slice_get-map}
use Rattle.tap_base.specs.declared.place.Range.{Range}
use Rattle.tap_base.specs.declared.system.Field.{Field}
use Rattle.tap_base.specs.declared.system.Guard.{Guard}
use Rattle.tap_base.specs.declared.system.Message.{Message}
use Rattle.tap_base.specs.declared.system.Process.{Process}
use Rattle.tap_base.specs.declared.system.System.{System}
use Rattle.tap_base.specs.declared.tree.Expr.{Expr}
use Rattle.tap_base.specs.declared.tree.Target.{Target}
use Rattle.tap_base.specs.Interval.{IsIn, IsWithin, delay_range, index_range}
use Rattle.tap_base.specs.Lists.{Each, EachBoth}
use Rattle.tap_base.specs.Parts.{Deed, assign, choose, send, start, stop, test, turns}
use Rattle.tap_base.specs.Ranges.{AreAllIn}
use Rattle.tap_base.specs.Receivers.{HasReceiver}
use Rattle.tap_base.specs.Resolved.{IsMet, IsResolvedExpr, IsResolvedTarget}
use Rattle.tap_base.specs.Scope.{Scope, fields_of, free_fields, scope_of, value_range}
use Rattle.tap_exec.specs.Filling.{wire_fields}
use Rattle.tap_exec.specs.Value.{value_of}
use Rattle.byte_meaning.specs.Messages.{Receives}
use Rattle.tap_exec.specs.Semantics.{ProcessSemantics, Semantics, action_semantics, guard_semantics, messages_of, process_semantics, semantics_of}
use Rattle.sound_values.specs.Sound.{IsJudged}
use Rattle.sound_values.proofs.FieldValues.{given_fit}
use Rattle.sound_values.proofs.Values.{sound}
use Rattle.sound_bodies.specs.Judged.{FitsRange, IsJudgedDeed, IsJudgedTarget}
use Rattle.sound_bodies.proofs.Bodies.{DeedRuns}
use Rattle.sound_bodies.proofs.Simple.{Aims, Gives, IsValued, Valuing}

pub in_wider : (x : ℤ) (a b : Range) → IsIn x a → IsWithin a b → IsIn x b
in_wider x a b h k = (omega (arith, ints, h.0, k.0), omega (arith, ints, h.1, k.1))

receives : (system : System) (p m q : ℕ) → HasReceiver system p m q → Receives (semantics_of system) p m q
receives system p m q h =
    let messages = messages_of system in
    let there = slice_get-map (process_semantics messages) system.processes p ∙ ap (option_map (process_semantics messages)) h.there in
    let is = slice_get-map (action_semantics messages) h.process.actions h.number ∙ ap (option_map (action_semantics messages)) h.is in
    record {
      number = h.number;
      action = action_semantics messages h.action;
      there = rw there is;
      guard = ap guard_semantics h.guard;
    }

declared_message : (system : System) (m : ℕ) (x : Message) → slice_get system.messages m ≡ Some x → slice_get (messages_of system) m ≡ Some (wire_fields x)
declared_message system m x is = slice_get-map wire_fields system.messages m ∙ ap (option_map wire_fields) is

module _ (system : System) (p : ℕ) (source : Process) (g : Guard) (value : Valuing) (inputs received : List ℤ)
    (given : AreAllIn (scope_of system.messages source g).inputs inputs) (heard : AreAllIn (scope_of system.messages source g).fields received) where
  abbrev semantics : Semantics
  semantics = semantics_of system

  abbrev process : ProcessSemantics
  process = process_semantics (messages_of system) source

  abbrev s : Scope
  s = scope_of system.messages source g

  abbrev Valued : Expr → Type 0
  Valued = IsValued semantics p process value inputs received

  abbrev Given : Expr → Range → Type 0
  Given = Gives semantics p process value inputs received

  -- what is judged right is what the valuing gives
  abbrev pub Values : Type 0
  Values = (e : Expr) (range : Range) → IsResolvedExpr s e → IsJudged s e range → Valued e

  module _ (values : Values) where
    gives_of : (e : Expr) (wanted : Range) → IsResolvedExpr s e → FitsRange s e wanted → Given e wanted
    gives_of e wanted h f = record {
      valued = values e f.range h f.judged;
      within = λ cells fit.
          let value = sound s cells inputs received (record { of_cells = fit; of_inputs = given; of_received = heard }) e f.range h f.judged in
          in_wider (value_of e cells inputs received) f.range wanted value.within f.within;
    }

    aims : (t : Target) → IsResolvedTarget s t → IsJudgedTarget s t → Aims semantics p process value inputs received t
    aims t h f = record { cells = h.cells; index = by_index t.index h.index f } where
      by_index : (i : Option Expr) → IfSome i (IsResolvedExpr s) → IfSome i (λ e. FitsRange s e (index_range t.length)) → IfSome i (λ e. Given e (index_range t.length))
      by_index None h f = tt
      by_index (Some e) h f = gives_of e (index_range t.length) h f

    all_aims : (ts : List Target) → Each (IsResolvedTarget s) ts → Each (IsJudgedTarget s) ts → Each (Aims semantics p process value inputs received) ts
    all_aims [] h f = tt
    all_aims (t ∷ ts) h f = (aims t h.0 f.0, all_aims ts h.1 f.1)

    to_targets : (ts : List Target) (es : List Expr) → Each (IsResolvedExpr s) es → EachBoth (λ (t : Target) (e : Expr). FitsRange s e t.range) ts es → EachBoth (λ (t : Target) (e : Expr). Given e t.range) ts es
    to_targets [] es h f = tt
    to_targets (t ∷ ts) [] h f = tt
    to_targets (t ∷ ts) (e ∷ es) h f = (gives_of e t.range h.0 f.0, to_targets ts es h.1 f.1)

    to_fields : (fs : List Field) (es : List Expr) → Each (IsResolvedExpr s) es → EachBoth (λ (f : Field) (e : Expr). FitsRange s e (value_range f)) fs es
        → EachBoth (λ (range : Range) (e : Expr). Given e range) (map value_range fs) es
    to_fields [] es h f = tt
    to_fields (t ∷ ts) [] h f = tt
    to_fields (t ∷ ts) (e ∷ es) h f = (gives_of e (value_range t) h.0 f.0, to_fields ts es h.1 f.1)

    deed_runs : (d : Deed) → IsMet system p source s d → IsJudgedDeed system.messages s d → DeedRuns semantics p process value inputs received d
    deed_runs (assign targets es) h f = (h.0, all_aims targets h.1 f.0, to_targets targets es h.2 f.1)
    deed_runs (choose target) h f = aims target h f
    deed_runs (send m es q) h f =
        let own = subst (λ o. EachBoth (λ (f : Field) (e : Expr). FitsRange s e (value_range f)) (free_fields (fields_of o)) es) h.named f in
        record {
          fields = wire_fields h.message;
          wanted = map value_range (free_fields h.message.fields);
          declared = declared_message system m h.message h.named;
          counted = h.counted ∙ sym (length-map (free_fields h.message.fields) value_range);
          given = to_fields (free_fields h.message.fields) es h.resolved own;
          fills = given_fit h.message.fields;
          other = h.other;
          receiver = receives system q m p h.received;
        }
    deed_runs (start t delay) h f = gives_of delay delay_range h.1 f
    deed_runs (stop t) h f = tt
    deed_runs (test e) h f = values e f.0 h f.1
    deed_runs (turns n) h f = tt

    pub all_run : (ds : List Deed) → Each (IsMet system p source s) ds → Each (IsJudgedDeed system.messages s) ds
        → Each (DeedRuns semantics p process value inputs received) ds
    all_run [] h f = tt
    all_run (d ∷ ds) h f = (deed_runs d h.0 f.0, all_run ds h.1 f.1)
