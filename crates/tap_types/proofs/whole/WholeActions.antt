-- Actions without an offence are actions of a resolved system.
use Rattle.std.proofs.Common.{◌≡◌, ℕ, ◌<◌, Bool, true, List, [], ◌∷◌, Option, Some, map, length, slice_get, refl, ap, sym, ◌∙◌, subst}
use Rattle.std.specs.Option.{option_map}
use Rattle.std.proofs.lemmas.List.{length-map}
use Rattle.std.proofs.lemmas.Option.{slice_get-map, slice_get_within}
use Rattle.tap_base.specs.declared.ast.AstAction.{AstAction}
use Rattle.tap_base.specs.declared.ast.AstField.{AstField}
use Rattle.tap_base.specs.declared.ast.AstGuard.{AstGuard}
use Rattle.tap_base.specs.declared.ast.AstGuard.TheVariants as guard
use Rattle.tap_base.specs.declared.ast.AstMessage.{AstMessage}
use Rattle.tap_base.specs.declared.ast.AstStmt.{AstStmt}
use Rattle.tap_base.specs.declared.system.Action.{Action}
use Rattle.tap_base.specs.declared.system.Guard.{Guard}
use Rattle.tap_base.specs.declared.system.Guard.TheVariants as when
use Rattle.tap_base.specs.declared.system.Message.{Message}
use Rattle.tap_base.specs.declared.system.Process.{Process}
use Rattle.tap_base.specs.declared.system.System.{System}
use Rattle.tap_base.specs.Lists.{Each}
use Rattle.tap_base.specs.Ranges.{ranges_of}
use Rattle.tap_base.proofs.ListFacts.{each_append, each_weaker, none_first, none_second}
use Rattle.tap_base.proofs.OptionFacts.{bound, mapped}
use Rattle.tap_names.specs.declared.named.Named.{Named}
use Rattle.tap_base.specs.ListWords.{joined}
use Rattle.tap_names.specs.MessageOffences.{field_names}
use Rattle.tap_names.specs.Names.{field_of, message_of}
use Rattle.tap_names.specs.Tables.{Entry}
use Rattle.tap_types.specs.ActionOffences.{action_offences, after_guard, guard_offences, process_scope, received_by}
use Rattle.tap_types.specs.Given.{ActionIsGiven, GuardIsGiven, IsGiven, StmtIsGiven}
use Rattle.tap_types.specs.Pieces.{pieces}
use Rattle.tap_base.specs.Parts.{Deed, all_deeds}
use Rattle.tap_base.specs.Resolved.{IsMet, IsNarrow, IsResolvedAction, IsResolvedGuard}
use Rattle.tap_base.specs.Scope.{Scope as Reach, fields_of, input_ranges, scope_of, value_range}
use Rattle.tap_types.specs.Scopes.{Scope, field_in, is_number, message_in, named_in, number_of, process_in}
use Rattle.tap_types.specs.SendOffences.{unreceived_by}
use Rattle.tap_types.specs.StmtOffences.{body_offences, message_name, peer_offences}
use Rattle.tap_types.specs.Systems.{action_of, expr_of, guard_of, timer_in}
use Rattle.tap_base.specs.Truths.{DeedHasTruths, GuardIsTest}
use Rattle.tap_types.proofs.whole.ProcessParts.{of_action, of_receive}
use Rattle.tap_types.proofs.whole.Sendable.{Sendable}
use Rattle.tap_types.proofs.whole.Standing.{Stands, StandsFor}
use Rattle.tap_types.proofs.whole.WholeDeeds.{GoodDeed, other_peer, timer_good}
use Rattle.tap_types.proofs.whole.WholeExprs.{good_test}
use Rattle.tap_types.proofs.whole.WholeStmts.{body_good}
use Rattle.tap_types.proofs.Positions.{number_within}
use Rattle.std.proofs.lemmas.Bool.{eqb-true}

given_body : (body : List AstStmt) → Each StmtIsGiven body → Each IsGiven (joined (map pieces body))
given_body [] g = tt
given_body (s ∷ ss) g = each_append IsGiven (pieces s) (joined (map pieces ss)) g.0 (given_body ss g.1)

-- as many fields as the message has in the tree
fields_length : (m : AstMessage) → length (map value_range (message_of m).fields) ≡ length (field_names m.fields)
fields_length m = length-map (map field_of m.fields) value_range ∙ length-map m.fields field_of ∙ sym (length-map m.fields (λ (f : AstField). f.name.text))

-- sends may name the same, whatever the action receives
sendable_behind : (c : Scope) (system : System) (p : ℕ) (received : List ℕ → List ℕ → Bool) (g : AstGuard) → Sendable c system p received → Sendable (after_guard c g) system p received
sendable_behind c system p received g n = record {
  me = n.me;
  messages = λ m k e. let r = n.messages m k e in record { message = r.message; told = r.told; named = r.named };
  peers = n.peers;
  receivers = n.receivers;
}

module _ (ms : List AstMessage) (ns : List (List ℕ)) (system : System) (p : ℕ) (process : Process) (received : List ℕ → List ℕ → Bool) (names : List (Entry Named))
    (kept : system.messages ≡ map message_of ms)
    (stand : (s : Reach) → s.cells ≡ ranges_of process.vars → s.inputs ≡ input_ranges process.inputs → (x : List ℕ) → StandsFor s process.timers (named_in (process_scope ms ns p names) x))
    (n : Sendable (process_scope ms ns p names) system p received) where
  abbrev c : Scope
  c = process_scope ms ns p names

  abbrev reach : Guard → Reach
  reach g = scope_of system.messages process g

  -- a field of the message m, where that is the one that is received
  part_there : (r m k : ℕ) (f : List ℕ) (o : Option ℕ) → o ≡ Some r → is_number m o ≡ true → field_in c m f ≡ Some k → k < length (map value_range (fields_of (slice_get system.messages r)))
  part_there r m k f o is same e =
      let I : Option ℕ → Type 0 = λ z. is_number m z ≡ true in
      let one : r ≡ m = eqb-true r m (subst I is same) in
      let b = bound (λ (message : AstMessage). number_of f (field_names message.fields)) (slice_get ms m) k e in
      let within = number_within f (field_names b.0.fields) k b.2 in
      let there : slice_get system.messages r ≡ Some (message_of b.0) = ap (slice_get system.messages) one ∙ ap (λ z. slice_get z m) kept ∙ slice_get-map message_of ms m ∙ ap (option_map message_of) b.1 in
      let F : Option Message → Type 0 = λ z. k < length (map value_range (fields_of z)) in
      subst F (sym there) (subst (λ z. k < z) (sym (fields_length b.0)) within)

  fields_there : (g : AstGuard) (x : Guard) → guard_of c g ≡ Some x → (m k : ℕ) (f : List ℕ) → is_number m (received_by c g) ≡ true → field_in c m f ≡ Some k → k < length (reach x).fields
  fields_there (guard.Local e) x is m k f same h = absurd cc
  fields_there (guard.Timeout t) x is m k f same h = absurd cc
  fields_there (guard.Receive u q) x is m k f same h =
      let r = of_receive c u q x is in
      let F : Guard → Type 0 = λ z. k < length (reach z).fields in
      subst F r.4 (part_there r.0 m k f (message_in c u.text) r.2 same h)

  stands_behind : (g : AstGuard) (x : Guard) → guard_of c g ≡ Some x → Stands (after_guard c g) (reach x) process.timers
  stands_behind g x is = record { names = λ name. stand (reach x) refl refl name; fields = λ m k f same h. fields_there g x is m k f same h }

  guard_good : (g : AstGuard) (x : Guard) → GuardIsGiven g → guard_offences c g ≡ [] → guard_of c g ≡ Some x → IsResolvedGuard system p process x × GuardIsTest (reach x) x
  guard_good (guard.Local e) x given o is =
      let m = mapped when.Local (expr_of c e) x is in
      let F : Guard → Type 0 = λ z. IsResolvedGuard system p process z × GuardIsTest (reach z) z in
      subst F m.2 (good_test c (reach (when.Local m.0)) process.timers (stands_behind (guard.Local e) (when.Local m.0) (is ∙ ap (λ z. Some z) (sym m.2))) e m.0 given o m.1)
  guard_good (guard.Receive u q) x given o is =
      let r = of_receive c u q x is in
      let F : Guard → Type 0 = λ z. IsResolvedGuard system p process z × GuardIsTest (reach z) z in
      let there = n.messages u.text r.0 r.2 in
      let within = slice_get_within system.messages r.0 (message_of there.message) there.named in
      let other = other_peer q.place p r.1 (process_in c q.text) r.3 (none_second (message_name c u) (peer_offences c q) o) in
      subst F r.4 ((within, n.peers q.text r.1 r.3, other), tt)
  guard_good (guard.Timeout t) x given o is =
      let m = mapped when.Timeout (timer_in c t) x is in
      let F : Guard → Type 0 = λ z. IsResolvedGuard system p process z × GuardIsTest (reach z) z in
      let s = reach (when.Timeout m.0) in
      subst F m.2 (timer_good s process.timers m.0 (named_in c t.text) (stand s refl refl t.text) m.1, tt)

  pub action_good : (a : AstAction) (x : Action) → ActionIsGiven a → action_offences c a ≡ [] → unreceived_by received a ≡ [] → action_of c a ≡ Some x → IsResolvedAction system p process x
  action_good a x given o u e =
      let parts = of_action c a x e in
      let s = reach parts.guard in
      let behind_ = after_guard c a.guard in
      let g = guard_good a.guard parts.guard given.0 (none_first (guard_offences c a.guard) (body_offences behind_ a.body) o) parts.of_guard in
      let all = body_good behind_ system p process s received (stands_behind a.guard parts.guard parts.of_guard) (sendable_behind c system p received a.guard n) a.body parts.body (given_body a.body given.1) (none_second (guard_offences c a.guard) (body_offences behind_ a.body) o) u parts.of_body in
      let P = GoodDeed system p process s in
      let D : List Deed = all_deeds parts.body in
      subst (IsResolvedAction system p process) parts.is (record {
        guard = g.0;
        tested = g.1;
        body = each_weaker P (IsMet system p process s) D (λ d h. h.0) all;
        truths = each_weaker P (DeedHasTruths s) D (λ d h. h.1) all;
        narrow = each_weaker P IsNarrow D (λ d h. h.2) all;
      })
