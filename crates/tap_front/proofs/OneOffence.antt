-- A text is accepted or has an offence, and never both; and its first offence is one, but for the place of S1.
use Rattle.std.proofs.Common.{◌≡◌, ℕ, ◌<◌, ◌≤◌, List, [], Some, Ok, Err, codes, length, refl, sym, ◌∙◌, ap, subst, arith}
use Rattle.std.proofs.lemmas.Option.{none-some, same_Some}
use Rattle.tap_base.specs.declared.ast.Ast.{Ast}
use Rattle.tap_base.specs.declared.refusal.Refusal.{Refusal}
use Rattle.tap_base.specs.declared.token.Token.{Token}
use Rattle.tap_lexer.specs.Lexeme.{lexemes}
use Rattle.tap_parser.specs.Systems.{IsTree, SpellsText, TextOffence}
use Rattle.tap_lexer.specs.Tokens.{LexesTo, Outcome, SpellsTokens}
use Rattle.tap_lexer.proofs.One.{one_text}
use Rattle.tap_parser.proofs.TextEnds.{one_text_end}
use Rattle.tap_parser.proofs.TextOneTree.{one_text as one_tree}
use Rattle.tap_base.specs.ListWords.{first}
use Rattle.tap_types.specs.Offences.{offences_of}
use Rattle.tap_types.specs.Systems.{system_of}
use Rattle.width_check.specs.Offences.{offences}
use Rattle.tap_base.specs.Wires.{wire_of}
use Rattle.tap_front.specs.Layouts.{IsLaidOut}
use Rattle.tap_front.proofs.OneLayout.{never_mislaid, one_mislaid}
use Rattle.tap_front.specs.Accepting.{Accepted, IsReadAs, ResolvesTo, longest_text}
use Rattle.tap_front.specs.Laws.{NeverRefused, OneOffence, OneSystemOfText, OneTreeOfText}
use Rattle.tap_front.specs.Lines.{code_word, offence_code}
use Rattle.tap_front.specs.Offences.{Misnames, Misspells, Offends, misfit, mislaid, misnamed, misspelled, too_long, unlexed, unnamed, unparsed}
use Rattle.tap_front.specs.declared.offence.Offence.{Offence}
use Rattle.tap_front.specs.declared.offence.Offence.TheVariants.{Coded}
use Rattle.tap_base.specs.declared.system.System.{System}

-- ---- tokens

same_tokens : (text : List ℕ) (ts us : List Token) → SpellsTokens text ts → SpellsTokens text us → ts ≡ us
same_tokens text ts us h g = let e : (let o : Outcome = Ok ts in o) ≡ Ok us = one_text text (Ok ts) (Ok us) h g in cc

same_refusal : (text : List ℕ) (r s : Refusal) → LexesTo text (Err r) → LexesTo text (Err s) → r ≡ s
same_refusal text r s h g = let e : (let o : Outcome = Err r in o) ≡ Err s = one_text text (Err r) (Err s) h g in cc

not_lexed : (text : List ℕ) (r : Refusal) (ts : List Token) → LexesTo text (Err r) → SpellsTokens text ts → ⊥
not_lexed text r ts h g = let e : (let o : Outcome = Err r in o) ≡ Ok ts = one_text text (Err r) (Ok ts) h g in cc

-- ---- texts

-- tokens that are a tree have no offence
not_tree : (text : List ℕ) (tokens : List Token) (tree : Ast) (r : Refusal) → IsTree (lexemes text tokens) tree → TextOffence text tokens r → ⊥
not_tree text tokens tree r t o = (one_text_end text tokens r o).0 tree t

not_long : (text : List ℕ) → longest_text < length text → length text ≤ longest_text → ⊥
not_long text h g = omega (arith, h, g)

never_misspelled : (text : List ℕ) (tree : Ast) (r : Refusal) → IsReadAs text tree → Misspells text r → ⊥
never_misspelled text tree r a (too_long long) = not_long text long a.sized
never_misspelled text tree r a (unlexed sized l) = not_lexed text r a.tokens l a.lexed
never_misspelled text tree r a (unparsed {tokens} sized l t) =
    not_tree text a.tokens tree r a.parsed (subst (λ ts. TextOffence text ts r) (same_tokens text tokens a.tokens l a.lexed) t)

-- the code and the place of the first offence of tokens
of_tokens : (text : List ℕ) (tokens : List Token) (r s : Refusal) → TextOffence text tokens r → TextOffence text tokens s
    → (code_word r.code ≡ code_word s.code) × ((code_word r.code ≡ codes "S1" → ⊥) → r ≡ s)
of_tokens text tokens r s o p =
    let h = (one_text_end text tokens r o).1 s p in
    (ap code_word h.0, λ n. h.1 (λ e. n (ap code_word e)))

one_misspelling : (text : List ℕ) (r s : Refusal) → Misspells text r → Misspells text s
    → (code_word r.code ≡ code_word s.code) × ((code_word r.code ≡ codes "S1" → ⊥) → r ≡ s)
one_misspelling text r s (too_long h) (too_long g) = (refl, λ n. refl)
one_misspelling text r s (too_long h) (unlexed g l) = absurd (not_long text h g)
one_misspelling text r s (too_long h) (unparsed g l t) = absurd (not_long text h g)
one_misspelling text r s (unlexed h l) (too_long g) = absurd (not_long text g h)
one_misspelling text r s (unlexed h l) (unlexed g m) = let e = same_refusal text r s l m in (ap (λ x. code_word x.code) e, λ n. e)
one_misspelling text r s (unlexed h l) (unparsed {tokens} g m t) = absurd (not_lexed text r tokens l m)
one_misspelling text r s (unparsed h l t) (too_long g) = absurd (not_long text g h)
one_misspelling text r s (unparsed {tokens} h l t) (unlexed g m) = absurd (not_lexed text s tokens m l)
one_misspelling text r s (unparsed {tokens} h l t) (unparsed {tokens = others} g m u) =
    of_tokens text tokens r s t (subst (λ ts. TextOffence text ts s) (same_tokens text others tokens m l) u)

-- ---- trees

same_tree : (text : List ℕ) (tokens others : List Token) (c d : Ast) → tokens ≡ others → IsTree (lexemes text tokens) c → IsTree (lexemes text others) d → c ≡ d
same_tree text tokens others c d e h g =
    let P : List Token → Type 0 = λ ts. SpellsText (lexemes text ts) d in
    one_tree (lexemes text tokens) c d h.spelled (subst P (sym e) g.spelled)

pub one_tree_of_text : OneTreeOfText
one_tree_of_text text c d h g = same_tree text h.tokens g.tokens c d (same_tokens text h.tokens g.tokens h.lexed g.lexed) h.parsed g.parsed

resolved_none : (tree other : Ast) (r : Refusal) → tree ≡ other → offences_of tree ≡ [] → first (offences_of other) ≡ Some r → ⊥
resolved_none tree other r e h f = none-some r (sym (ap first (sym (ap offences_of e) ∙ h)) ∙ f)

resolved_same : (tree other : Ast) (s t : System) → tree ≡ other → system_of tree ≡ Some s → system_of other ≡ Some t → s ≡ t
resolved_same tree other s t e h k = same_Some s t (sym h ∙ ap system_of e ∙ k)

-- systems that are one: what has no offence has no first one
cleared_none : (s t : System) (r : Refusal) → s ≡ t → offences s ≡ [] → first (offences t) ≡ Some r → ⊥
cleared_none s t r e h f = none-some r (sym (ap first (sym (ap offences e) ∙ h)) ∙ f)

-- a tree that resolves to a system that is checked and is laid out has no offence
never_misnamed : (tree other : Ast) (s : System) (o : Offence) → tree ≡ other → ResolvesTo tree s → offences s ≡ [] → IsLaidOut (wire_of s) → Misnames other o → ⊥
never_misnamed tree other s o e h clear laid (unnamed {r} f) = resolved_none tree other r e h.faultless f
never_misnamed tree other s o e h clear laid (misfit {r} {system} k f) = cleared_none s system r (resolved_same tree other s system e h.named k.named) clear f
never_misnamed tree other s o e h clear laid (mislaid {system} k none m) = never_mislaid s system o (resolved_same tree other s system e h.named k.named) laid m

accepted_whole : (text : List ℕ) (system : System) (o : Offence) → Accepted text system → Offends text o → ⊥
accepted_whole text system o a (misspelled {r} m) = never_misspelled text a.tree r a.read m
accepted_whole text system o a (misnamed {tree} read m) = never_misnamed a.tree tree system o (one_tree_of_text text a.tree tree a.read read) a.resolved a.clear a.laid_out m

pub never_refused : NeverRefused
never_refused = (never_misspelled, accepted_whole)

-- the first offences of one tree are one
one_misnaming : (tree other : Ast) (o p : Offence) → tree ≡ other → Misnames tree o → Misnames other p → o ≡ p
one_misnaming tree other o p e (unnamed {r} f) (unnamed {r = s} g) = ap Coded (same_Some r s (sym f ∙ ap first (ap offences_of e) ∙ g))
one_misnaming tree other o p e (unnamed {r} f) (misfit k g) = absurd (resolved_none other tree r (sym e) k.faultless f)
one_misnaming tree other o p e (unnamed {r} f) (mislaid k none m) = absurd (resolved_none other tree r (sym e) k.faultless f)
one_misnaming tree other o p e (misfit k g) (unnamed {r} f) = absurd (resolved_none tree other r e k.faultless f)
one_misnaming tree other o p e (misfit {r} {system = s} k g) (misfit {r = q} {system = t} l f) =
    ap Coded (same_Some r q (sym g ∙ ap first (ap offences (resolved_same tree other s t e k.named l.named)) ∙ f))
one_misnaming tree other o p e (misfit {r} {system = s} k g) (mislaid {system = t} l none m) =
    absurd (cleared_none t s r (resolved_same other tree t s (sym e) l.named k.named) none g)
one_misnaming tree other o p e (mislaid k none m) (unnamed {r} f) = absurd (resolved_none tree other r e k.faultless f)
one_misnaming tree other o p e (mislaid {system = s} k none m) (misfit {r} {system = t} l g) =
    absurd (cleared_none s t r (resolved_same tree other s t e k.named l.named) none g)
one_misnaming tree other o p e (mislaid {system = s} k none m) (mislaid {system = t} l nil n) =
    one_mislaid s t o p (resolved_same tree other s t e k.named l.named) m n

pub one_offence : OneOffence
one_offence text o p (misspelled {r} m) (misspelled {r = s} n) = let h = one_misspelling text r s m n in (h.0, λ k. ap Coded (h.1 k))
one_offence text o p (misspelled {r} m) (misnamed {tree} read n) = absurd (never_misspelled text tree r read m)
one_offence text o p (misnamed {tree} read n) (misspelled {r} m) = absurd (never_misspelled text tree r read m)
one_offence text o p (misnamed {tree} read m) (misnamed {tree = other} again n) =
    let e = one_misnaming tree other o p (one_tree_of_text text tree other read again) m n in
    (ap offence_code e, λ k. e)

-- ---- systems

pub one_system_of_text : OneSystemOfText
one_system_of_text text a b h k = resolved_same h.tree k.tree a b (one_tree_of_text text h.tree k.tree h.read k.read) h.resolved.named k.resolved.named
