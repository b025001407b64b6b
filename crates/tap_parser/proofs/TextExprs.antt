-- Expressions with what is kept of them, and targets.
use Rattle.std.proofs.Common.{◌≡◌, ℕ, ◌+◌, ◌<◌, ◌≤◌, refl, sym, ap, subst, List, [], ◌∷◌, Option, Some, None, Bool, true, false, nat_lt, Result, Ok, Err, drop, length, ltb-true, lt-ltb, arith}
use Rattle.tap_base.specs.declared.ast.AstExpr.{AstExpr}
use Rattle.tap_base.specs.declared.ast.AstTarget.{AstTarget}
use Rattle.tap_base.specs.declared.ast.Ident.{Ident}
use Rattle.tap_base.specs.declared.token.Sign.{Sign}
use Rattle.tap_base.specs.declared.token.Sign.TheVariants as sign
use Rattle.tap_base.specs.declared.tree.Op.{Op}
use Rattle.tap_lexer.specs.Lexeme.{Lexeme}
use Rattle.tap_lexer.specs.Leaves.{ident}
use Rattle.tap_lexer.specs.Rows.{Separated, last, more}
use Rattle.tap_lexer.specs.declared.found.Found.{Found}
use Rattle.tap_lexer.specs.inner.Reading.{Shows}
use Rattle.tap_lexer.specs.inner.Reading.{Lacks, Free, Closed, closed}
use Rattle.tap_expr.specs.Grammar.{Level, expression, choosing, Reads, chain, plain, denied, single, related, positive, negative, leaf, number, truth, untruth, name as named_atom, element as indexed_atom, part, chosen, group}
use Rattle.tap_expr.specs.Nodes.{nodes, most_nodes}
use Rattle.tap_expr.specs.declared.found.Built.{Built}
use Rattle.tap_expr.specs.declared.found.Built.TheVariants as built
use Rattle.tap_expr.specs.declared.found.Stuck.{Stuck}
use Rattle.tap_expr.specs.declared.found.Stuck.TheVariants as stuck
use Rattle.tap_expr.specs.inner.ExprReading.{carries_on, Stops, IsFound, IsBuilt}
use Rattle.tap_expr.specs.inner.ExprReading as reading
use Rattle.tap_parser.specs.Declarations.{name}
use Rattle.tap_parser.specs.Statements.{IsTarget, whole, element}
use Rattle.tap_parser.specs.Systems.{Sized}
use Rattle.tap_parser.specs.declared.kept.Kept.{Kept}
use Rattle.tap_parser.specs.declared.kept.Kept.TheVariants.{Whole, Large}
use Rattle.tap_parser.specs.inner.Keeping.{both, mapped, kept_of}
use Rattle.tap_parser.specs.inner.Forms.{Begins}
use Rattle.tap_parser.specs.inner.Reading.{Verdict, Agrees, Lies, Answers}
use Rattle.tap_parser.proofs.TextParts.{begun, Form, Both, renamed, After, after, shown_answers, anywhere, begins_here, lacks_here, renamed_answers, empty_answers}
use Rattle.tap_parser.proofs.TextBounds.{Name}

-- ---- what ends an expression

pub no_index : (us : List Lexeme) → Stops expression us → Lacks sign.OpenIndex us
unfolding carries_on
no_index [] h = tt
no_index (x ∷ us) h = λ e. let q = ap (carries_on expression) e in absurd cc

-- ---- what begins an expression

abbrev pub opens_expr : Sign → Bool
opens_expr sign.Not = true
opens_expr sign.Minus = true
opens_expr sign.Number = true
opens_expr sign.True = true
opens_expr sign.False = true
opens_expr sign.Name = true
opens_expr sign.Min = true
opens_expr sign.Max = true
opens_expr sign.Open = true
opens_expr _ = false

abbrev pub Opens : List Lexeme → Type 0
Opens [] = ⊥
Opens (x ∷ us) = opens_expr x.sign ≡ true

choosing_opens : (s : Sign) (o : Op) → choosing s ≡ Some o → opens_expr s ≡ true
choosing_opens sign.Min o e = refl
choosing_opens sign.Max o e = refl
choosing_opens _ o e = absurd cc

pub expr_opens : {l : Level} {e : AstExpr} {ts us : List Lexeme} → Reads l e ts us → Opens ts
expr_opens (chain r g) = expr_opens r
expr_opens (plain r) = expr_opens r
expr_opens (denied i r) = ap opens_expr i
expr_opens (single r) = expr_opens r
expr_opens (related r i q) = expr_opens r
expr_opens (positive r) = expr_opens r
expr_opens (negative i r) = ap opens_expr i
expr_opens (leaf (number i)) = ap opens_expr i
expr_opens (leaf (truth i)) = ap opens_expr i
expr_opens (leaf (untruth i)) = ap opens_expr i
expr_opens (leaf (named_atom i)) = ap opens_expr i
expr_opens (indexed_atom i j r k) = ap opens_expr i
expr_opens (leaf (part i j k)) = ap opens_expr i
expr_opens (chosen {x} {o} i j r k q m) = choosing_opens x.sign o i
expr_opens (group i r k) = ap opens_expr i

pub sized_opens : (n : Option ℕ) (e : AstExpr) (ts us : List Lexeme) → Sized n e ts us → Opens ts
sized_opens None e ts us r = expr_opens r
sized_opens (Some n) e ts us r = expr_opens r.0

pub unopened : (s : Sign) (ts : List Lexeme) → opens_expr s ≡ false → Opens ts → Begins s ts → ⊥
unopened s [] q o b = o
unopened s (x ∷ ts) q o b = let i = ap opens_expr b in absurd cc

-- ---- expressions

module _ (xs : List Lexeme) (at : ℕ) where
  large_verdict : (m next : ℕ) (ys : List Lexeme) (e : AstExpr) (b : Bool) → b ≡ nat_lt m (length (drop at ys)) → IsFound expression ys at next e → most_nodes < nodes e → (o : Option AstExpr) × Verdict (Sized (Some m)) (Stops expression) (drop at ys) (drop next ys) o × Agrees (Some m) ys (Large at) o
  large_verdict m next ys e true q f l = (
    None,
    λ d ws r stops.
        let h = f.only d ws r.0 stops in
        let i : nodes d ≤ most_nodes = r.1 (ltb-true m (length (drop at ys)) (sym q)) in
        let j : nodes d ≡ nodes e = ap nodes h.0 in
        absurd (omega arith),
    sym q,
  )
  large_verdict m next ys e false q f l = (
    Some e,
    record {
      spelled = (f.spelled, λ lt. let i = lt-ltb m (length (drop at ys)) lt in absurd cc);
      only = λ d ws r stops. f.only d ws r.0 stops;
    },
    sym q,
  )

  expr_verdict : (n : Option ℕ) (next : ℕ) (ys : List Lexeme) (e : AstExpr) (b : Built) → IsFound expression ys at next e → IsBuilt e b → (o : Option AstExpr) × Verdict (Sized n) (Stops expression) (drop at ys) (drop next ys) o × Agrees n ys (kept_of b at) o
  expr_verdict None next ys e (built.Whole d c) f h = (Some e, record { spelled = f.spelled; only = f.only }, ap (λ k. Some k) (sym h.0))
  expr_verdict None next ys e built.Large f h = (Some e, record { spelled = f.spelled; only = f.only }, refl)
  expr_verdict (Some m) next ys e (built.Whole d c) f h = (
    Some e,
    record {
      spelled = (f.spelled, λ lt. let i = h.1 in let j = h.2 in omega arith);
      only = λ k ws r stops. f.only k ws r.0 stops;
    },
    ap (λ k. Some k) (sym h.0),
  )
  expr_verdict (Some m) next ys e built.Large f h = large_verdict m next ys e (nat_lt m (length (drop at ys))) refl f h

  lies_expr : (next : ℕ) (b : Built) → at < next → next ≤ length xs → Lies xs at next (kept_of b at)
  lies_expr next (built.Whole d c) h g = tt
  lies_expr next built.Large h g = (omega arith, omega arith, omega arith)

  pub expr_answers : (f : Found Built) (k : Kept AstExpr) → k ≡ kept_of f.value at → reading.Answers expression xs at (Ok f) → Answers Sized (Stops expression) xs at (Ok (record { value = k; next = f.next }))
  expr_answers f k e h =
      let further = (h xs refl).1.further in
      let within = (h xs refl).1.within in
      let G : Kept AstExpr → Type 0 = λ i. Answers Sized (Stops expression) xs at (Ok (record { value = i; next = f.next })) in
      subst G (sym e) (omega arith, lies_expr f.next f.value further within, λ ys same n. let g = h ys same in expr_verdict n f.next ys g.0 f.value g.1 g.2)

  never_sized : (n : Option ℕ) (ts us : List Lexeme) (d : AstExpr) → reading.Never expression ts → Sized n d ts us → Stops expression us → ⊥
  never_sized None ts us d h r stops = h d us r stops
  never_sized (Some m) ts us d h r stops = h d us r.0 stops

  pub expr_stuck : (e : Stuck) → reading.Answers expression xs at (Err e) → Answers Sized (Stops expression) xs at (Err e)
  expr_stuck (stuck.At k) h = (h.0, λ ys same n d ws r stops. never_sized n (drop at ys) ws d (h.1 ys same) r stops)
  expr_stuck stuck.NoMemory h = tt

-- ---- targets

-- [ "[" expr "]" ]
pub data Bracketed (E : AstExpr → List Lexeme → List Lexeme → Type 0) : Option AstExpr → List Lexeme → List Lexeme → Type 0 where
  bare : {ts : List Lexeme} → Bracketed E None ts ts
  indexed : {e : AstExpr} {y z : Lexeme} {ts us : List Lexeme} → y.sign ≡ sign.OpenIndex → E e ts (z ∷ us) → z.sign ≡ sign.CloseIndex → Bracketed E (Some e) (y ∷ ts) us

abbrev pub InBrackets : Form AstExpr
InBrackets n = Closed (Sized n) sign.CloseIndex

abbrev pub Index : Form (Option AstExpr)
Index n = Bracketed (Sized n)

abbrev pub Targets : Form AstTarget
Targets n = IsTarget (Sized n)

roll_index : (n : Option ℕ) (a : AstExpr) (ts us : List Lexeme) → After sign.OpenIndex (InBrackets n) a ts us → Index n (Some a) ts us
roll_index n a ts us (after i (closed r k)) = indexed i r k

pub unroll_index : (n : Option ℕ) (b : Option AstExpr) (ts us : List Lexeme) → Begins sign.OpenIndex ts → Index n b ts us → Lacks sign.OpenIndex us → (a : AstExpr) × After sign.OpenIndex (InBrackets n) a ts us × (b ≡ Some a)
unroll_index n b ts us q bare l = absurd (begun sign.OpenIndex ts q l)
unroll_index n b ts us q (indexed {e} i r k) l = (e, after i (closed r k), refl)

only_bare : (n : Option ℕ) (b : Option AstExpr) (ts us : List Lexeme) → Lacks sign.OpenIndex ts → Index n b ts us → (b ≡ None) × (us ≡ ts)
only_bare n b ts us q bare = (refl, refl)
only_bare n b ts us q (indexed i r k) = absurd (q i)

roll_target : (n : Option ℕ) (v : Ident × Option AstExpr) (ts us : List Lexeme) → Both Name Index n v ts us → IsTarget (Sized n) (record { name = v.0; index = v.1 }) ts us
roll_target n v ts us (ks, name e, bare) = whole e
roll_target n v ts us (ks, name e, indexed i r k) = element e i r k

pub unroll_target : (n : Option ℕ) (b : AstTarget) (ts us : List Lexeme) → IsTarget (Sized n) b ts us → (v : Ident × Option AstExpr) × Both Name Index n v ts us × (b ≡ record { name = v.0; index = v.1 })
unroll_target n b ts us (whole {x} {ts = ks} e) = ((ident x, None), (ks, name e, bare), refl)
unroll_target n b ts us (element {e = a} {x} {y} {ts = ks} e i r k) = ((ident x, Some a), (y ∷ ks, name e, indexed i r k), refl)

pub index_answers : (xs : List Lexeme) (at : ℕ) (r : Result (Found (Kept AstExpr)) Stuck) → Shows sign.OpenIndex xs at → Answers InBrackets Free xs (at + 1) r → Answers Index (Lacks sign.OpenIndex) xs at (renamed (λ a. Some a) r)
index_answers xs at r x h = renamed_answers (λ n. After sign.OpenIndex (InBrackets n)) Index Free (Lacks sign.OpenIndex) (λ a. Some a) (Begins sign.OpenIndex) (λ n a ts us q p. roll_index n a ts us p) (λ n b ts us q p l. unroll_index n b ts us q p l) (λ us l. tt) xs at r (begins_here xs at sign.OpenIndex x) (shown_answers sign.OpenIndex InBrackets Free xs at r x h)

pub bare_answers : (xs : List Lexeme) (at : ℕ) → Lacks sign.OpenIndex (drop at xs) → Answers Index (Lacks sign.OpenIndex) xs at (Ok (record { value = Whole None; next = at }))
bare_answers xs at l = empty_answers Index (Lacks sign.OpenIndex) (Lacks sign.OpenIndex) xs at None (lacks_here xs at sign.OpenIndex l) (λ n ts q. bare) (λ n b ts us q p k. only_bare n b ts us q p)

pub target_answers : (xs : List Lexeme) (at : ℕ) (r : Result (Found (Kept (Ident × Option AstExpr))) Stuck) → Answers (Both Name Index) (Lacks sign.OpenIndex) xs at r → Answers Targets (Lacks sign.OpenIndex) xs at (renamed (λ v. record { name = v.0; index = v.1 }) r)
target_answers xs at r h = renamed_answers (Both Name Index) Targets (Lacks sign.OpenIndex) (Lacks sign.OpenIndex) (λ v. record { name = v.0; index = v.1 }) Free (λ n a ts us q p. roll_target n a ts us p) (λ n b ts us q p s. unroll_target n b ts us p) (λ us s. s) xs at r (anywhere xs at) h

pub target_value : (i : Ident) (k : Kept AstExpr) → mapped {B = AstTarget} (λ e. record { name = i; index = Some e }) k ≡ mapped {A = Ident × Option AstExpr} {B = AstTarget} (λ v. record { name = v.0; index = v.1 }) (both (λ a b. (a, b)) (Whole i) (mapped (λ a. Some a) k))
target_value i (Whole e) = refl
target_value i (Large j) = refl

pub target_begins : (n : Option ℕ) (b : AstTarget) (ts us : List Lexeme) → IsTarget (Sized n) b ts us → Begins sign.Name ts
target_begins n b ts us (whole e) = e
target_begins n b ts us (element e i r k) = e

pub targets_begin : (n : Option ℕ) (l : List AstTarget) (ts us : List Lexeme) → Separated (IsTarget (Sized n)) sign.Comma l ts us → Begins sign.Name ts
targets_begin n l ts us (last {a} i) = target_begins n a ts us i
targets_begin n l ts us (more {a} {x} {us = ks} i e s) = target_begins n a ts (x ∷ ks) i
