-- What moves from what is held to a line.
use Rattle.std.proofs.Common.{◌≡◌, ◌≢◌, ◌≤◌, ◌<◌, ◌+◌, ◌-◌, ℕ, Bool, true, false, inl, inr, List, [], ◌∷◌, ◌++◌, length, take, drop, ltb, refl, ap, sym, subst, ◌∙◌, arith, Ok, length-append}
use Rattle.std.proofs.Math.Seq.{drop-append-add}
use Rattle.std.proofs.lemmas.Bool.{ltb-true, ltb-false}
use Rattle.std.proofs.lemmas.List.{drop_all, length-drop, length-take}
use Rattle.run_text.specs.ScheduleText.{IsFirstLine, Lacks}
use Rattle.store_lines.specs.Lines.{most_bytes}
use Rattle.store_lines.specs.inner.Moving.{Moves}

pub some_held : (piece : List ℕ) (start end : ℕ) → start < end → end ≤ length piece → drop start (take end piece) ≢ []
some_held piece start end some within none =
    let long : length (drop start (take end piece)) ≡ 0 = ap length none in
    absurd (omega (arith, long, length-drop start (take end piece), length-take end piece, some, within))

keeps_rest : (held front rest : List ℕ) → held ≡ front ++ 10 ∷ rest → drop (length held - length rest) held ≡ rest
keeps_rest held front rest split =
    let long : length held ≡ length front + length (10 ∷ rest) = ap length split ∙ length-append front (10 ∷ rest) in
    let count : length held - length rest ≡ length front + 1 = omega (arith, long) in
    ap (λ n. drop n held) count ∙ ap (drop (length front + 1)) split ∙ drop-append-add front (10 ∷ rest) 1

moved_of : (ended : Bool) (held line front rest kept new : List ℕ) → ended ≡ ltb (length front) (length held) → IsFirstLine held front rest → Lacks 10 front
    → kept ≡ drop (length held - length rest) held → new ≡ line ++ front → length new ≤ most_bytes → Moves held line (Ok ended) kept new
moved_of true held line front rest kept new e (inl split) whole k n short =
    (front, split ∙ ap (λ z. front ++ 10 ∷ z) (sym (k ∙ keeps_rest held front rest split)), whole, n, short)
moved_of false held line front rest kept new e (inl split) whole k n short =
    let long : length held ≡ length front + length (10 ∷ rest) = ap length split ∙ length-append front (10 ∷ rest) in
    let none = ltb-false (length front) (length held) (sym e) in
    absurd (omega (arith, long, none))
moved_of true held line front rest kept new e (inr none) whole k n short =
    let some = ltb-true (length front) (length held) (sym e) in
    let long : length held ≡ length front = ap length none.0 in
    absurd (omega (arith, long, some))
moved_of false held line front rest kept new e (inr none) whole k n short =
    (subst (Lacks 10) (sym none.0) whole, k ∙ ap (λ r. drop (length held - length r) held) none.1 ∙ (let none : length {A = ℕ} [] ≡ 0 = refl in drop_all _ held (omega (arith, none))), n ∙ ap (λ z. line ++ z) (sym none.0), short)

pub moved : (ended : Bool) (bytes held line front rest kept new : List ℕ) → bytes ≡ held → ended ≡ ltb (length front) (length bytes) → IsFirstLine bytes front rest → Lacks 10 front
    → kept ≡ drop (length held - length rest) held → new ≡ line ++ front → length new ≤ most_bytes → Moves held line (Ok ended) kept new
moved ended bytes held line front rest kept new same e first whole k n short =
    moved_of ended held line front rest kept new (e ∙ ap (λ z. ltb (length front) (length z)) same) (subst (λ z. IsFirstLine z front rest) same first) whole k n short
