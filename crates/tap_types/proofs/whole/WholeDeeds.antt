-- Statements without an offence that have no branches name deeds that are met.
use Rattle.std.proofs.Common.{◌≡◌, ◌≢◌, ℕ, ◌<◌, ◌≤◌, ◌==◌, Bool, List, [], ◌∷◌, ◌++◌, Option, Some, None, map, flat_map, length, slice_get, refl, ap, sym, ◌∙◌, subst, arith}
use Rattle.std.specs.Prelude.{ℤ, pos, suc, ◌-ℤ◌, ◌<ℤ◌, ◌^◌, if◌then◌else◌, filter, is_none, option_and_then}
use Rattle.std.specs.Option.{option_map}
use Rattle.std.proofs.lemmas.Bool.Decides.{Decides-eqb}
use Rattle.std.proofs.lemmas.Option.{none-some, same_Some}
use Rattle.tap_base.specs.declared.place.Place.{Place}
use Rattle.tap_base.specs.declared.place.Range.{Range}
use Rattle.tap_base.specs.declared.refusal.RefusalCode.TheVariants.{K2, N3, X1}
use Rattle.tap_base.specs.declared.ast.AstExpr.{AstExpr}
use Rattle.tap_base.specs.declared.ast.AstField.{AstField}
use Rattle.tap_base.specs.declared.ast.AstMessage.{AstMessage}
use Rattle.tap_base.specs.declared.ast.AstTarget.{AstTarget}
use Rattle.tap_base.specs.declared.ast.Ident.{Ident}
use Rattle.tap_base.specs.declared.system.Process.{Process}
use Rattle.tap_base.specs.declared.system.System.{System}
use Rattle.tap_base.specs.declared.tree.Stmt.{Stmt}
use Rattle.tap_base.specs.declared.tree.Stmt.TheVariants as stmt
use Rattle.tap_base.specs.declared.tree.Target.{Target}
use Rattle.tap_base.specs.Lists.{Each}
use Rattle.tap_base.specs.Option.{each}
use Rattle.tap_base.proofs.ListFacts.{each_first, each_second, each_split, none_first, none_second}
use Rattle.tap_base.proofs.OptionFacts.{bound, mapped}
use Rattle.tap_names.specs.declared.named.Kind.{Kind}
use Rattle.tap_names.specs.declared.named.Kind.TheVariants.{Number}
use Rattle.tap_names.specs.declared.named.Named.{Named}
use Rattle.tap_names.specs.declared.named.Named.TheVariants as named
use Rattle.tap_names.specs.Names.{field_of, message_of}
use Rattle.tap_types.specs.ExprOffences.{Judged, judged_in, value_offences, wrong_kind}
use Rattle.tap_types.specs.Given.{IsGiven, NumbersFit}
use Rattle.tap_types.specs.Pieces.{target_pieces, value, targets}
use Rattle.tap_base.specs.Parts.{Deed, assign, choose, send, start, stop, deeds}
use Rattle.tap_base.specs.Resolved.{IsMet, IsNarrow, IsResolvedExpr, IsResolvedTarget}
use Rattle.tap_base.specs.Scope.{Scope as Reach, free_fields, one_free}
use Rattle.tap_types.specs.Scopes.{Scope, message_in, named_in, process_in, free_fields as count_free}
use Rattle.tap_types.specs.SendOffences.{unreceived}
use Rattle.tap_types.specs.StmtOffences.{assignment_offences, choice_offences, choice_width, is_wide, kind_at, kinds_of, message_at, message_name, peer_at, peer_offences, range_of_target, send_offences, target_offences, timer_name, unequal, value_count, value_to, values_to}
use Rattle.tap_types.specs.Systems.{assignment_of, expr_of, send_of, start_of, target_of, timer_in, timer_number}
use Rattle.tap_base.specs.Truths.{DeedHasTruths, IndexStandsOnTruths, StandsOnTruths}
use Rattle.tap_types.proofs.whole.Deeds.{deeds_assign, deeds_choose, deeds_send, deeds_start, deeds_stop}
use Rattle.tap_types.proofs.whole.Numbers.{not_wide}
use Rattle.tap_types.proofs.whole.Sendable.{Sendable}
use Rattle.tap_types.proofs.whole.Standing.{Stands, StandsFor}
use Rattle.tap_types.proofs.whole.WholeExprs.{good_expr, good_value}
use Rattle.tap_types.proofs.whole.WholeTargets.{target_good}
use Rattle.tap_base.proofs.GatheredFacts.{each_good, each_length, each_numbered_good}
use Rattle.tap_base.proofs.OffenceFacts.{met, unmet}
use Rattle.std.proofs.lemmas.Bool.{eqb-true}

-- the deed is met, truths stand in it where they are due, and a choice is narrow
abbrev pub GoodDeed : System → ℕ → Process → Reach → Deed → Type 0
GoodDeed system p process s d = IsMet system p process s d × DeedHasTruths s d × IsNarrow d

-- ---- what is given

given_values : (es : List AstExpr) → Each IsGiven (map value es) → Each NumbersFit es
given_values [] g = tt
given_values (e ∷ es) g = (g.0, given_values es g.1)

given_targets : (ts : List AstTarget) → Each IsGiven (flat_map target_pieces ts) → Each (λ t. Each IsGiven (target_pieces t)) ts
given_targets [] g = tt
given_targets (t ∷ ts) g = let r = each_split IsGiven (target_pieces t) (flat_map target_pieces ts) g in (r.0, given_targets ts r.1)

-- ---- counts

equal_lengths : (ts : List AstTarget) (es : List AstExpr) → 1 ≤ length ts → unequal ts es ≡ [] → length ts ≡ length es
equal_lengths [] es l h = absurd (omega (arith, l))
equal_lengths (t ∷ ts) es l h = eqb-true (length (t ∷ ts)) (length es) (met (length (t ∷ ts) == length es) K2 t.name.place h)

-- as many fields without a fixed value in the system as in the tree
free_more : (f : AstField) (fs : List AstField) (o : Option ℤ) → length (free_fields (map field_of fs)) ≡ count_free fs → length (one_free o (field_of f) ++ free_fields (map field_of fs)) ≡ length (if is_none o then f ∷ filter (λ g. is_none g.fixed) fs else filter (λ g. is_none g.fixed) fs)
free_more f fs None r = ap suc r
free_more f fs (Some x) r = r

free_alike : (fs : List AstField) → length (free_fields (map field_of fs)) ≡ count_free fs
free_alike [] = refl
free_alike (f ∷ fs) = free_more f fs f.fixed (free_alike fs)

-- ---- timers and peers

pub timer_good : (s : Reach) (timers k : ℕ) (o : Option Named) → StandsFor s timers o → timer_number o ≡ Some k → k < timers
timer_good s timers k None h e = absurd (none-some k e)
timer_good s timers k (Some (named.Constant v)) h e = absurd (none-some k e)
timer_good s timers k (Some (named.Input n l)) h e = absurd (none-some k e)
timer_good s timers k (Some (named.Variable first l range)) h e = absurd (none-some k e)
timer_good s timers k (Some (named.Array first count l range)) h e = absurd (none-some k e)
timer_good s timers k (Some (named.Timer t)) h e = subst (λ z. z < timers) (same_Some t k e) h

pub other_peer : (p : Place) (me j : ℕ) (o : Option ℕ) → o ≡ Some j → peer_at p me o ≡ [] → j ≢ me
other_peer p me j o e h same =
    let F : Option ℕ → Type 0 = λ z. peer_at p me z ≡ [] in
    let no = unmet (j == me) N3 p (subst F e h) in
    let yes = (Decides-eqb j me).1 same in
    cc

-- ---- values

value_to_good : (k : Option Kind) (j : Judged) → value_to k j ≡ [] → j.offences ≡ []
value_to_good None j h = h
value_to_good (Some k) j h = none_first j.offences (wrong_kind k j) h

counted_values : (p : Place) (c : Scope) (k : ℕ) (o : Option ℕ) (m : AstMessage) (es : List AstExpr) → o ≡ Some k → slice_get c.messages k ≡ Some m → value_count p (message_at c o) es ≡ [] → length es ≡ count_free m.fields
counted_values p c k o m es e is h =
    let F : Option ℕ → Type 0 = λ z. value_count p (message_at c z) es ≡ [] in
    let G : Option AstMessage → Type 0 = λ z. value_count p z es ≡ [] in
    eqb-true (length es) (count_free m.fields) (met (length es == count_free m.fields) K2 p (subst G is (subst F e h)))

module _ (c : Scope) (system : System) (p : ℕ) (process : Process) (s : Reach) (received : List ℕ → List ℕ → Bool) (h : Stands c s process.timers) (n : Sendable c system p received) where
  one_deed : (x : Stmt) (d : Deed) → deeds x ≡ d ∷ [] → GoodDeed system p process s d → Each (GoodDeed system p process s) (deeds x)
  one_deed x d e g = subst (Each (GoodDeed system p process s)) (sym e) (g, tt)

  good_target : (t : AstTarget) (x : Target) → Each IsGiven (target_pieces t) → target_offences c t ≡ [] → target_of c t ≡ Some x → IsResolvedTarget s x × IndexStandsOnTruths s x
  good_target t x g o e = let r = target_good c s process.timers h t x g o e in (r.resolved, r.truths)

  pub assign_good : (ts : List AstTarget) (es : List AstExpr) (x : Stmt) → Each IsGiven (targets ts ∷ (flat_map target_pieces ts ++ map value es)) → assignment_offences c ts es ≡ [] → assignment_of c ts es ≡ Some x → Each (GoodDeed system p process s) (deeds x)
  assign_good ts es x g o e =
      let a = bound (λ xs. option_and_then (λ ys. Some (stmt.Assign xs ys)) (each (expr_of c) es)) (each (target_of c) ts) x e in
      let b = bound (λ ys. Some (stmt.Assign a.0 ys)) (each (expr_of c) es) x a.2 in
      let is = same_Some (stmt.Assign a.0 b.0) x b.2 in
      let given = each_split IsGiven (flat_map target_pieces ts) (map value es) g.1 in
      let front = none_first (flat_map (target_offences c) ts ++ unequal ts es) (values_to c (kinds_of c ts) es) o in
      let aimed = each_good (target_of c) (target_offences c) (λ t. Each IsGiven (target_pieces t)) (λ t. IsResolvedTarget s t × IndexStandsOnTruths s t) good_target ts a.0 (given_targets ts given.0) (none_first (flat_map (target_offences c) ts) (unequal ts es) front) a.1 in
      let valued = each_numbered_good (expr_of c) (λ i v. value_to (kind_at (kinds_of c ts) i) (judged_in c v)) NumbersFit (λ v. IsResolvedExpr s v × StandsOnTruths s v) (λ i v y f w q. good_expr c s process.timers h v y f (value_to_good (kind_at (kinds_of c ts) i) (judged_in c v) w) q) 0 es b.0 (given_values es given.1) (none_second (flat_map (target_offences c) ts ++ unequal ts es) (values_to c (kinds_of c ts) es) o) b.1 in
      let lengths = each_length (target_of c) ts a.0 a.1 ∙ equal_lengths ts es g.0 (none_second (flat_map (target_offences c) ts) (unequal ts es) front) ∙ sym (each_length (expr_of c) es b.0 b.1) in
      let met_ : IsMet system p process s (assign a.0 b.0) = (lengths, each_first (IsResolvedTarget s) (IndexStandsOnTruths s) a.0 aimed, each_first (IsResolvedExpr s) (StandsOnTruths s) b.0 valued) in
      let truths : DeedHasTruths s (assign a.0 b.0) = (each_second (IsResolvedTarget s) (IndexStandsOnTruths s) a.0 aimed, each_second (IsResolvedExpr s) (StandsOnTruths s) b.0 valued) in
      subst (λ z. Each (GoodDeed system p process s) (deeds z)) is (one_deed (stmt.Assign a.0 b.0) (assign a.0 b.0) (deeds_assign a.0 b.0) (met_, truths, tt))

  narrow_choice : (q : Place) (o : Option Range) (range : Range) → o ≡ Some range → choice_width q o ≡ [] → (range.hi -ℤ range.lo) <ℤ pos (2 ^ 32)
  narrow_choice q o range e w =
      let F : Option Range → Type 0 = λ z. choice_width q z ≡ [] in
      not_wide range (unmet (is_wide range) X1 q (subst F e w))

  pub choose_good : (t : AstTarget) (x : Stmt) → Each IsGiven (target_pieces t) → choice_offences c t ≡ [] → option_map stmt.Choose (target_of c t) ≡ Some x → Each (GoodDeed system p process s) (deeds x)
  choose_good t x g o e =
      let m = mapped stmt.Choose (target_of c t) x e in
      let width = choice_width t.name.place (range_of_target (named_in c t.name.text)) in
      let r = target_good c s process.timers h t m.0 g (none_first (target_offences c t) width o) m.1 in
      let w = narrow_choice t.name.place (range_of_target (named_in c t.name.text)) m.0.range r.ranged (none_second (target_offences c t) width o) in
      subst (λ z. Each (GoodDeed system p process s) (deeds z)) m.2 (one_deed (stmt.Choose m.0) (choose m.0) (deeds_choose m.0) (r.resolved, r.truths, w))

  pub send_good : (m : Ident) (es : List AstExpr) (q : Ident) (x : Stmt) → Each IsGiven (map value es) → send_offences c m es q ≡ [] → unreceived received m q ≡ [] → send_of c m es q ≡ Some x → Each (GoodDeed system p process s) (deeds x)
  send_good m es q x g o u e =
      let a = bound (λ k. option_and_then (λ ys. option_and_then (λ j. Some (stmt.Send k ys j)) (process_in c q.text)) (each (expr_of c) es)) (message_in c m.text) x e in
      let b = bound (λ ys. option_and_then (λ j. Some (stmt.Send a.0 ys j)) (process_in c q.text)) (each (expr_of c) es) x a.2 in
      let d = bound (λ j. Some (stmt.Send a.0 b.0 j)) (process_in c q.text) x b.2 in
      let is = same_Some (stmt.Send a.0 b.0 d.0) x d.2 in
      let count = value_count m.place (message_at c (message_in c m.text)) es in
      let values = flat_map (value_offences c Number) es in
      let front = none_first (message_name c m ++ count ++ values) (peer_offences c q) o in
      let peer = none_second (message_name c m ++ count ++ values) (peer_offences c q) o in
      let counts = none_second (message_name c m) count (none_first (message_name c m ++ count) values front) in
      let valued = each_good (expr_of c) (value_offences c Number) NumbersFit (λ v. IsResolvedExpr s v × StandsOnTruths s v) (λ v y f w z. good_value c s process.timers h Number v y f w z) es b.0 (given_values es g) (none_second (message_name c m ++ count) values front) b.1 in
      let there = n.messages m.text a.0 a.1 in
      let met_ : IsMet system p process s (send a.0 b.0 d.0) = record {
        message = message_of there.message;
        named = there.named;
        counted = each_length (expr_of c) es b.0 b.1 ∙ counted_values m.place c a.0 (message_in c m.text) there.message es a.1 there.told counts ∙ sym (free_alike there.message.fields);
        resolved = each_first (IsResolvedExpr s) (StandsOnTruths s) b.0 valued;
        peer = n.peers q.text d.0 d.1;
        other = λ same. other_peer q.place c.me d.0 (process_in c q.text) d.1 peer (same ∙ sym n.me);
        received = n.receivers m q a.0 d.0 a.1 d.1 u;
      } in
      let truths : DeedHasTruths s (send a.0 b.0 d.0) = each_second (IsResolvedExpr s) (StandsOnTruths s) b.0 valued in
      subst (λ z. Each (GoodDeed system p process s) (deeds z)) is (one_deed (stmt.Send a.0 b.0 d.0) (send a.0 b.0 d.0) (deeds_send a.0 b.0 d.0) (met_, truths, tt))

  pub start_good : (t : Ident) (delay : AstExpr) (x : Stmt) → NumbersFit delay → timer_name c t ++ value_offences c Number delay ≡ [] → start_of c t delay ≡ Some x → Each (GoodDeed system p process s) (deeds x)
  start_good t delay x g o e =
      let a = bound (λ k. option_and_then (λ y. Some (stmt.Start k y)) (expr_of c delay)) (timer_in c t) x e in
      let b = bound (λ y. Some (stmt.Start a.0 y)) (expr_of c delay) x a.2 in
      let is = same_Some (stmt.Start a.0 b.0) x b.2 in
      let v = good_value c s process.timers h Number delay b.0 g (none_second (timer_name c t) (value_offences c Number delay) o) b.1 in
      let k = timer_good s process.timers a.0 (named_in c t.text) (h.names t.text) a.1 in
      let met_ : IsMet system p process s (start a.0 b.0) = (k, v.0) in
      subst (λ z. Each (GoodDeed system p process s) (deeds z)) is (one_deed (stmt.Start a.0 b.0) (start a.0 b.0) (deeds_start a.0 b.0) (met_, v.1, tt))

  pub stop_good : (t : Ident) (x : Stmt) → option_map stmt.Stop (timer_in c t) ≡ Some x → Each (GoodDeed system p process s) (deeds x)
  stop_good t x e =
      let m = mapped stmt.Stop (timer_in c t) x e in
      let k = timer_good s process.timers m.0 (named_in c t.text) (h.names t.text) m.1 in
      subst (λ z. Each (GoodDeed system p process s) (deeds z)) m.2 (one_deed (stmt.Stop m.0) (stop m.0) (deeds_stop m.0) (k, tt, tt))
