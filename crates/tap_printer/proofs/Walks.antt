-- Brackets along a list of signs: how deep they go, and what is printed goes no deeper than what it was read from.
use Rattle.std.proofs.Common.{◌≡◌, ℤ, ℕ, zero, suc, ◌+◌, ◌<◌, ◌≤◌, refl, sym, ◌∙◌, ap, subst, Bool, true, false, List, [], ◌∷◌, ◌++◌, length, take, Some, arith, append_assoc, append-nil, length-append, inl, inr, ◌⊎◌}
use Rattle.std.proofs.lemmas.Bool.{cases_lt}
use Rattle.std.specs.List.{slice_get}
use Rattle.tap_base.specs.declared.token.Sign.{Sign}
use Rattle.tap_base.specs.declared.token.Sign.TheVariants as sign
use Rattle.tap_base.specs.Lists.{Each}
use Rattle.tap_lexer.specs.Depth.{opens, closes, one_if, count_signs, deepest, OpensAt, IsShallow}
use Rattle.tap_lexer.specs.Lexeme.{Lexeme}
use Rattle.tap_printer.specs.CanonicalLaws.{IsPrinted, Begins, none, next, IsNatural}
use Rattle.tap_printer.specs.Printed.{Printed, mark, name, number, sign_of}
use Rattle.tap_printer.proofs.Fitting.{is_spelled, IsRead, IsSound, IsProper, AreProper, proper_append, proper_front, is_closed, may_follow, Fit, last_sign, IsPhrase, phrase_none, phrase_one, phrase_append, phrase_wrapped, phrase_bare, phrase_dotted, phrase_chosen, BeginsExpr, inside_index, ended_index}

-- ---- walks over things that have signs

module _ {A : Type 0} (sign_at : A → Sign) where
  -- how many of them pass the test
  pub count : (Sign → Bool) → List A → ℕ
  count test [] = 0
  count test (x ∷ xs) = one_if (test (sign_at x)) + count test xs

  -- behind a that open a bracket and b that close one, none of these opens one of the depth that none may have
  pub StaysIn : ℕ → ℕ → List A → Type 0
  StaysIn a b [] = Unit {0}
  StaysIn a b (x ∷ xs) = (opens (sign_at x) ≡ true → a + 1 ≤ b + 32) × StaysIn (a + one_if (opens (sign_at x))) (b + one_if (closes (sign_at x))) xs

  count_append : (test : Sign → Bool) (xs ys : List A) → count test (xs ++ ys) ≡ count test xs + count test ys
  unfolding count
  count_append test [] ys = omega arith
  count_append test (x ∷ xs) ys = let h = count_append test xs ys in omega (arith, h)

  -- nearer to the floor all the more
  lower : (xs : List A) (a b c d : ℕ) → c + b ≤ a + d → StaysIn a b xs → StaysIn c d xs
  unfolding StaysIn
  lower [] a b c d h s = tt
  lower (x ∷ xs) a b c d h s = (
    λ e. let k = s.0 e in omega (arith, h, k),
    lower xs (a + one_if (opens (sign_at x))) (b + one_if (closes (sign_at x))) (c + one_if (opens (sign_at x))) (d + one_if (closes (sign_at x))) (omega (arith, h)) s.1,
  )

  front_stays : (xs ys : List A) (a b : ℕ) → StaysIn a b (xs ++ ys) → StaysIn a b xs
  unfolding StaysIn
  front_stays [] ys a b s = tt
  front_stays (x ∷ xs) ys a b s = (s.0, front_stays xs ys (a + one_if (opens (sign_at x))) (b + one_if (closes (sign_at x))) s.1)

  rest_stays : (xs ys : List A) (a b : ℕ) → StaysIn a b (xs ++ ys) → StaysIn (a + count opens xs) (b + count closes xs) ys
  unfolding StaysIn count
  rest_stays [] ys a b s = lower ys a b (a + 0) (b + 0) (omega arith) s
  rest_stays (x ∷ xs) ys a b s =
      lower ys ((a + one_if (opens (sign_at x))) + count opens xs) ((b + one_if (closes (sign_at x))) + count closes xs) (a + (one_if (opens (sign_at x)) + count opens xs)) (b + (one_if (closes (sign_at x)) + count closes xs)) (omega arith)
      (rest_stays xs ys (a + one_if (opens (sign_at x))) (b + one_if (closes (sign_at x))) s.1)

  both_stay : (xs ys : List A) (a b : ℕ) → StaysIn a b xs → StaysIn (a + count opens xs) (b + count closes xs) ys → StaysIn a b (xs ++ ys)
  unfolding StaysIn count
  both_stay [] ys a b s t = lower ys (a + 0) (b + 0) a b (omega arith) t
  both_stay (x ∷ xs) ys a b s t = (
    s.0,
    both_stay xs ys (a + one_if (opens (sign_at x))) (b + one_if (closes (sign_at x))) s.1
        (lower ys (a + (one_if (opens (sign_at x)) + count opens xs)) (b + (one_if (closes (sign_at x)) + count closes xs)) ((a + one_if (opens (sign_at x))) + count opens xs) ((b + one_if (closes (sign_at x))) + count closes xs) (omega arith) t),
  )

-- ---- tokens, and what is printed of them

abbrev pub lexeme_sign : Lexeme → Sign
lexeme_sign x = x.sign

-- what is printed opens as many brackets as it closes, as do the tokens, and goes no deeper
pub record IsLighter (tokens : List Lexeme) (printed : List Printed) : Type 0 where
  pub even : count lexeme_sign opens tokens ≡ count lexeme_sign closes tokens
  pub evenly : count sign_of opens printed ≡ count sign_of closes printed
  pub stays : (a b : ℕ) → StaysIn lexeme_sign a b tokens → StaysIn sign_of a b printed

lighter_none : IsLighter [] []
unfolding count StaysIn
lighter_none = record { even = refl; evenly = refl; stays = λ a b s. tt }

lighter_append : (s t : List Lexeme) (p q : List Printed) → IsLighter s p → IsLighter t q → IsLighter (s ++ t) (p ++ q)
lighter_append s t p q h k =
    let a = count_append lexeme_sign opens s t in let b = count_append lexeme_sign closes s t in
    let c = count_append sign_of opens p q in let d = count_append sign_of closes p q in
    let e = h.even in let f = k.even in let g = h.evenly in let i = k.evenly in
    record {
      even = omega (arith, a, b, e, f);
      evenly = omega (arith, c, d, g, i);
      stays = λ m n w. both_stay sign_of p q m n (h.stays m n (front_stays lexeme_sign s t m n w))
          (lower sign_of q m n (m + count sign_of opens p) (n + count sign_of closes p) (omega (arith, g))
          (k.stays m n (lower lexeme_sign t (m + count lexeme_sign opens s) (n + count lexeme_sign closes s) m n (omega (arith, e)) (rest_stays lexeme_sign s t m n w))));
    }

-- a sign that is no bracket
abbrev pub IsPlain : Sign → Type 0
IsPlain s = (opens s ≡ false) × (closes s ≡ false)

lighter_one : (x : Lexeme) (t : Printed) → x.sign ≡ sign_of t → IsPlain (sign_of t) → IsLighter (x ∷ []) (t ∷ [])
unfolding count StaysIn
lighter_one x t is plain =
    let o = ap one_if (ap opens is ∙ plain.0) in let c = ap one_if (ap closes is ∙ plain.1) in
    let p = ap one_if plain.0 in let q = ap one_if plain.1 in
    record { even = omega (arith, o, c); evenly = omega (arith, p, q); stays = λ a b w. (λ e. w.0 (ap opens is ∙ e), tt) }

-- a token that is not printed, and one that was not read
lighter_dropped : (x : Lexeme) → IsPlain x.sign → IsLighter (x ∷ []) []
unfolding count StaysIn
lighter_dropped x plain = let o = ap one_if plain.0 in let c = ap one_if plain.1 in record { even = omega (arith, o, c); evenly = refl; stays = λ a b w. tt }

lighter_added : (t : Printed) → IsPlain (sign_of t) → IsLighter [] (t ∷ [])
unfolding count StaysIn
lighter_added t plain =
    let p = ap one_if plain.0 in let q = ap one_if plain.1 in
    record { even = refl; evenly = omega (arith, p, q); stays = λ a b w. (λ e. let u : opens (sign_of t) ≡ false = plain.0 in absurd cc, tt) }

-- signs of two brackets that belong together
pub record ArePair (o c : Sign) : Type 0 where
  pub opening : opens o ≡ true
  pub not_closing : closes o ≡ false
  pub closing : closes c ≡ true
  pub not_opening : opens c ≡ false

wrapped_tokens : (x z : Lexeme) (o c : Sign) (s : List Lexeme) → ArePair o c → x.sign ≡ o → z.sign ≡ c → count lexeme_sign opens s ≡ count lexeme_sign closes s
    → (count lexeme_sign opens (x ∷ s ++ z ∷ []) ≡ count lexeme_sign closes (x ∷ s ++ z ∷ []))
unfolding count
wrapped_tokens x z o c s pair i j even =
    let a = count_append lexeme_sign opens s (z ∷ []) in let b = count_append lexeme_sign closes s (z ∷ []) in
    let p = ap one_if (ap opens i ∙ pair.opening) in let q = ap one_if (ap closes i ∙ pair.not_closing) in
    let r = ap one_if (ap closes j ∙ pair.closing) in let t = ap one_if (ap opens j ∙ pair.not_opening) in
    omega (arith, a, b, p, q, r, t, even)

wrapped_printed : (o c : Sign) (p : List Printed) → ArePair o c → count sign_of opens (mark o ∷ p ++ mark c ∷ []) ≡ count sign_of opens p + 1
unfolding count
wrapped_printed o c p pair =
    let a = count_append sign_of opens p (mark c ∷ []) in
    let q = ap one_if pair.opening in let t = ap one_if pair.not_opening in
    omega (arith, a, q, t)

wrapped_closes : (o c : Sign) (p : List Printed) → ArePair o c → count sign_of closes (mark o ∷ p ++ mark c ∷ []) ≡ count sign_of closes p + 1
unfolding count
wrapped_closes o c p pair =
    let a = count_append sign_of closes p (mark c ∷ []) in
    let q = ap one_if pair.closing in let t = ap one_if pair.not_closing in
    omega (arith, a, q, t)

-- what stands in brackets stays in
inner_stays : (x z : Lexeme) (o c : Sign) (s : List Lexeme) (a b : ℕ) → ArePair o c → x.sign ≡ o → StaysIn lexeme_sign a b (x ∷ s ++ z ∷ []) → (a + 1 ≤ b + 32) × StaysIn lexeme_sign (a + 1) b s
unfolding StaysIn
inner_stays x z o c s a b pair i w =
    let p = ap one_if (ap opens i ∙ pair.opening) in let q = ap one_if (ap closes i ∙ pair.not_closing) in (
      w.0 (ap opens i ∙ pair.opening),
      lower lexeme_sign s (a + one_if (opens x.sign)) (b + one_if (closes x.sign)) (a + 1) b (omega (arith, p, q)) (front_stays lexeme_sign s (z ∷ []) (a + one_if (opens x.sign)) (b + one_if (closes x.sign)) w.1),
    )

wrapped_stays : (o c : Sign) (p : List Printed) (a b : ℕ) → ArePair o c → a + 1 ≤ b + 32 → StaysIn sign_of (a + 1) b p → StaysIn sign_of a b (mark o ∷ p ++ mark c ∷ [])
unfolding StaysIn
wrapped_stays o c p a b pair h w =
    let q = ap one_if pair.opening in let r = ap one_if pair.not_closing in (
      λ e. h,
      both_stay sign_of p (mark c ∷ []) (a + one_if (opens o)) (b + one_if (closes o)) (lower sign_of p (a + 1) b (a + one_if (opens o)) (b + one_if (closes o)) (omega (arith, q, r)) w)
          (λ e. let t : opens c ≡ true = e in let u : opens c ≡ false = pair.not_opening in absurd cc, tt),
    )

unwrapped_stays : (o c : Sign) (p : List Printed) (a b : ℕ) → ArePair o c → StaysIn sign_of a b (mark o ∷ p ++ mark c ∷ []) → StaysIn sign_of a b p
unfolding StaysIn
unwrapped_stays o c p a b pair w =
    let q = ap one_if pair.opening in let r = ap one_if pair.not_closing in
    lower sign_of p (a + one_if (opens o)) (b + one_if (closes o)) a b (omega (arith, q, r)) (front_stays sign_of p (mark c ∷ []) (a + one_if (opens o)) (b + one_if (closes o)) w.1)

lighter_wrapped : (x z : Lexeme) (o c : Sign) (s : List Lexeme) (p : List Printed) → ArePair o c → x.sign ≡ o → z.sign ≡ c → IsLighter s p → IsLighter (x ∷ s ++ z ∷ []) (mark o ∷ p ++ mark c ∷ [])
lighter_wrapped x z o c s p pair i j h =
    let e = h.evenly in let f = wrapped_printed o c p pair in let g = wrapped_closes o c p pair in
    record {
      even = wrapped_tokens x z o c s pair i j h.even;
      evenly = omega (arith, e, f, g);
      stays = λ a b w. let k = inner_stays x z o c s a b pair i w in wrapped_stays o c p a b pair k.0 (h.stays (a + 1) b k.1);
    }

lighter_stripped : (x z : Lexeme) (o c : Sign) (s : List Lexeme) (p : List Printed) → ArePair o c → x.sign ≡ o → z.sign ≡ c → IsLighter s p → IsLighter (x ∷ s ++ z ∷ []) p
lighter_stripped x z o c s p pair i j h = record {
  even = wrapped_tokens x z o c s pair i j h.even;
  evenly = h.evenly;
  stays = λ a b w. lower sign_of p (a + 1) b a b (omega arith) (h.stays (a + 1) b (inner_stays x z o c s a b pair i w).1);
}

lighter_bare : (o c : Sign) (s : List Lexeme) (p : List Printed) → ArePair o c → IsLighter s (mark o ∷ p ++ mark c ∷ []) → IsLighter s p
lighter_bare o c s p pair h =
    let e = h.evenly in let f = wrapped_printed o c p pair in let g = wrapped_closes o c p pair in
    record { even = h.even; evenly = omega (arith, e, f, g); stays = λ a b w. unwrapped_stays o c p a b pair (h.stays a b w) }

-- ---- parts of a list of tokens

each_front : (P : Lexeme → Type 0) (s t : List Lexeme) → Each P (s ++ t) → Each P s
each_front P [] t h = tt
each_front P (x ∷ s) t h = (h.0, each_front P s t h.1)

each_rest : (P : Lexeme → Type 0) (s t : List Lexeme) → Each P (s ++ t) → Each P t
each_rest P [] t h = h
each_rest P (x ∷ s) t h = each_rest P s t h.1

-- Of the tokens ts, those before us are no fewer than the printed ones, which go no deeper and stay apart.
pub record Covers (printed : List Printed) (ts us : List Lexeme) : Type 0 where
  pub tokens : List Lexeme
  pub cut : ts ≡ tokens ++ us
  pub shorter : Each IsNatural tokens → length printed ≤ length tokens
  pub lighter : IsLighter tokens printed
  pub proper : Each IsSound tokens → AreProper printed
  pub phrase : IsPhrase printed

pub nothing : {ts : List Lexeme} → Covers [] ts ts
nothing = record { tokens = []; cut = refl; shorter = λ h. omega arith; lighter = lighter_none; proper = λ h. tt; phrase = phrase_none }

pub joined_covers : {p q : List Printed} {ts us ws : List Lexeme} → Covers p ts us → Covers q us ws → Covers (p ++ q) ts ws
joined_covers {p} {q} {ws} h k = record {
  tokens = h.tokens ++ k.tokens;
  cut = h.cut ∙ ap (λ v. h.tokens ++ v) k.cut ∙ sym (append_assoc h.tokens k.tokens ws);
  shorter = λ n.
      let a = h.shorter (each_front IsNatural h.tokens k.tokens n) in let b = k.shorter (each_rest IsNatural h.tokens k.tokens n) in
      let c = length-append p q in let d = length-append h.tokens k.tokens in
      omega (arith, a, b, c, d);
  lighter = lighter_append h.tokens k.tokens p q h.lighter k.lighter;
  proper = λ n. proper_append p q (h.proper (each_front IsSound h.tokens k.tokens n)) (k.proper (each_rest IsSound h.tokens k.tokens n));
  phrase = phrase_append p q h.phrase k.phrase;
}

one : {x : Lexeme} {ts : List Lexeme} (t : Printed) → x.sign ≡ sign_of t → IsPlain (sign_of t) → is_closed (sign_of t) ≡ true → (IsSound x → IsProper t) → Covers (t ∷ []) (x ∷ ts) ts
one {x} t is plain closed sound = record { tokens = x ∷ []; cut = refl; shorter = λ n. omega arith; lighter = lighter_one x t is plain; proper = λ n. (sound n.0, tt); phrase = phrase_one t closed }

-- a sign that is a word or a symbol, no bracket, and closed
abbrev pub IsOrdinary : Sign → Type 0
IsOrdinary s = (opens s ≡ false) × (closes s ≡ false) × (is_closed s ≡ true) × (is_spelled s ≡ true)

pub one_mark : {x : Lexeme} {ts : List Lexeme} (s : Sign) → x.sign ≡ s → IsOrdinary s → Covers (mark s ∷ []) (x ∷ ts) ts
one_mark s i o = one (mark s) i (o.0, o.1) o.2 (λ n. o.3)

pub one_name : {ts : List Lexeme} (x : Lexeme) → x.sign ≡ sign.Name → Covers (name x.text ∷ []) (x ∷ ts) ts
one_name x i = one (name x.text) i (refl, refl) refl (λ n. n.a_name i)

pub one_number : {ts : List Lexeme} (x : Lexeme) → x.sign ≡ sign.Number → Covers (number x.value ∷ []) (x ∷ ts) ts
one_number x i = one (number x.value) i (refl, refl) refl (λ n. n.a_number i)

pub put_mark : {x : Lexeme} {p : List Printed} {ts us : List Lexeme} (s : Sign) → x.sign ≡ s → IsOrdinary s → Covers p ts us → Covers (mark s ∷ p) (x ∷ ts) us
put_mark s i o h = joined_covers (one_mark s i o) h

pub put_name : {p : List Printed} {ts us : List Lexeme} (x : Lexeme) → x.sign ≡ sign.Name → Covers p ts us → Covers (name x.text ∷ p) (x ∷ ts) us
put_name x i h = joined_covers (one_name x i) h

pub put_number : {p : List Printed} {ts us : List Lexeme} (x : Lexeme) → x.sign ≡ sign.Number → Covers p ts us → Covers (number x.value ∷ p) (x ∷ ts) us
put_number x i h = joined_covers (one_number x i) h

-- a number that is printed with a sign, where it was read without one
pub added : {x : Lexeme} {ts : List Lexeme} (s : Sign) (n : ℤ) → IsOrdinary s → x.sign ≡ sign.Number → (IsNatural x → ⊥) → (IsSound x → ⊥) → Covers (mark s ∷ number n ∷ []) (x ∷ ts) ts
added {x} s n o is never unsound = record {
  tokens = x ∷ [];
  cut = refl;
  shorter = λ k. absurd (never k.0);
  lighter = lighter_append [] (x ∷ []) (mark s ∷ []) (number n ∷ []) (lighter_added (mark s) (o.0, o.1)) (lighter_one x (number n) is (refl, refl));
  proper = λ k. absurd (unsound k.0);
  phrase = phrase_append (mark s ∷ []) (number n ∷ []) (phrase_one (mark s) o.2) (phrase_one (number n) refl);
}

-- one that is printed with the sign with which it was read, or without it
pub signed : {x y : Lexeme} {ts : List Lexeme} (s : Sign) (n : ℤ) → IsOrdinary s → x.sign ≡ s → y.sign ≡ sign.Number → (IsSound y → IsRead n) → Covers (mark s ∷ number n ∷ []) (x ∷ y ∷ ts) ts
signed {y} s n o i is sound = put_mark s i o (one (number n) is (refl, refl) refl sound)

pub dropped : {x y : Lexeme} {ts : List Lexeme} (n : ℤ) → IsPlain x.sign → y.sign ≡ sign.Number → (IsSound y → IsRead n) → Covers (number n ∷ []) (x ∷ y ∷ ts) ts
dropped {x} {y} n first is sound = record {
  tokens = x ∷ y ∷ [];
  cut = refl;
  shorter = λ k. omega arith;
  lighter = lighter_append (x ∷ []) (y ∷ []) [] (number n ∷ []) (lighter_dropped x first) (lighter_one y (number n) is (refl, refl));
  proper = λ k. (sound k.1.0, tt);
  phrase = phrase_one (number n) refl;
}

wrapped_cut : (x z : Lexeme) (s ts us : List Lexeme) → ts ≡ s ++ z ∷ us → x ∷ ts ≡ (x ∷ s ++ z ∷ []) ++ us
wrapped_cut x z s ts us e = ap (λ v. x ∷ v) (e ∙ sym (append_assoc s (z ∷ []) us))

-- brackets that belong together, as they are printed
pub record ArePrintedPair (o c : Sign) : Type 0 where
  pub pair : ArePair o c
  pub spelled : is_spelled o ≡ true
  pub close_spelled : is_spelled c ≡ true
  pub closed : is_closed c ≡ true

within : {x z : Lexeme} {p : List Printed} {ts us : List Lexeme} (o c : Sign) → ArePrintedPair o c → x.sign ≡ o → (h : Covers p ts (z ∷ us)) → z.sign ≡ c → Fit o p → is_closed (last_sign o p) ≡ true → Covers (mark o ∷ p ++ mark c ∷ []) (x ∷ ts) us
within {x} {z} {p} {ts} {us} o c two i h j inside ended = record {
  tokens = x ∷ h.tokens ++ z ∷ [];
  cut = wrapped_cut x z h.tokens ts us h.cut;
  shorter = λ n.
      let a = h.shorter (each_front IsNatural h.tokens (z ∷ []) n.1) in let b = length-append p (mark c ∷ []) in let d = length-append h.tokens (z ∷ []) in
      omega (arith, a, b, d);
  lighter = lighter_wrapped x z o c h.tokens p two.pair i j h.lighter;
  proper = λ n. (two.spelled, proper_append p (mark c ∷ []) (h.proper (each_front IsSound h.tokens (z ∷ []) n.1)) (two.close_spelled, tt));
  phrase = phrase_wrapped o c p inside ended two.closed;
}

pub wrapped : {x z : Lexeme} {p : List Printed} {ts us : List Lexeme} (o c : Sign) → ArePrintedPair o c → is_closed o ≡ true → x.sign ≡ o → Covers p ts (z ∷ us) → z.sign ≡ c → Covers (mark o ∷ p ++ mark c ∷ []) (x ∷ ts) us
wrapped {p} o c two w i h j = within o c two i h j (h.phrase.fits o w) (h.phrase.ends o w)

-- an index
pub indexed : {x z : Lexeme} {p : List Printed} {ts us : List Lexeme} → x.sign ≡ sign.OpenIndex → BeginsExpr p → Covers p ts (z ∷ us) → z.sign ≡ sign.CloseIndex → Covers (mark sign.OpenIndex ∷ p ++ mark sign.CloseIndex ∷ []) (x ∷ ts) us
indexed {p} i b h j = within sign.OpenIndex sign.CloseIndex square i h j (inside_index p b h.phrase) (ended_index p b h.phrase)
  where
    square : ArePrintedPair sign.OpenIndex sign.CloseIndex
    square = record { pair = record { opening = refl; not_closing = refl; closing = refl; not_opening = refl }; spelled = refl; close_spelled = refl; closed = refl }

pub round : ArePrintedPair sign.Open sign.Close
round = record { pair = record { opening = refl; not_closing = refl; closing = refl; not_opening = refl }; spelled = refl; close_spelled = refl; closed = refl }

-- parentheses that are not printed
pub stripped : {x z : Lexeme} {p : List Printed} {ts us : List Lexeme} → x.sign ≡ sign.Open → Covers p ts (z ∷ us) → z.sign ≡ sign.Close → Covers p (x ∷ ts) us
stripped {x} {z} {p} {ts} {us} i h j = record {
  tokens = x ∷ h.tokens ++ z ∷ [];
  cut = wrapped_cut x z h.tokens ts us h.cut;
  shorter = λ n.
      let a = h.shorter (each_front IsNatural h.tokens (z ∷ []) n.1) in let d = length-append h.tokens (z ∷ []) in
      omega (arith, a, d);
  lighter = lighter_stripped x z sign.Open sign.Close h.tokens p round.pair i j h.lighter;
  proper = λ n. h.proper (each_front IsSound h.tokens (z ∷ []) n.1);
  phrase = h.phrase;
}

pub bare : {p : List Printed} {ts us : List Lexeme} → Covers (mark sign.Open ∷ p ++ mark sign.Close ∷ []) ts us → Covers p ts us
bare {p} h = record {
  tokens = h.tokens;
  cut = h.cut;
  shorter = λ n. let a = h.shorter n in let b = length-append p (mark sign.Close ∷ []) in omega (arith, a, b);
  lighter = lighter_bare sign.Open sign.Close h.tokens p round.pair h.lighter;
  proper = λ n. proper_front p (mark sign.Close ∷ []) (h.proper n).1;
  phrase = phrase_bare p h.phrase;
}

-- a name, `.` and a name
pub dotted : {y : Lexeme} {ts : List Lexeme} (x z : Lexeme) → x.sign ≡ sign.Name → y.sign ≡ sign.Dot → z.sign ≡ sign.Name → Covers (name x.text ∷ mark sign.Dot ∷ name z.text ∷ []) (x ∷ y ∷ z ∷ ts) ts
dotted {y} x z i j k = record {
  tokens = x ∷ y ∷ z ∷ [];
  cut = refl;
  shorter = λ n. omega arith;
  lighter = lighter_append (x ∷ []) (y ∷ z ∷ []) (name x.text ∷ []) (mark sign.Dot ∷ name z.text ∷ []) (lighter_one x (name x.text) i (refl, refl))
      (lighter_append (y ∷ []) (z ∷ []) (mark sign.Dot ∷ []) (name z.text ∷ []) (lighter_one y (mark sign.Dot) j (refl, refl)) (lighter_one z (name z.text) k (refl, refl)));
  proper = λ n. (n.0.a_name i, (refl, (n.1.1.0.a_name k, tt)));
  phrase = phrase_dotted x.text z.text;
}

-- `min` or `max`, and what stands in parentheses behind it
pub chosen_covers : {x : Lexeme} {p : List Printed} {ts us : List Lexeme} (s : Sign) → x.sign ≡ s → IsPlain s → is_spelled s ≡ true → may_follow s sign.Open ≡ true → Covers (mark sign.Open ∷ p) ts us → Covers (mark s ∷ mark sign.Open ∷ p) (x ∷ ts) us
chosen_covers {x} {p} s i plain spelled follows h = record {
  tokens = x ∷ h.tokens;
  cut = ap (λ v. x ∷ v) h.cut;
  shorter = λ n. let a = h.shorter n.1 in omega (arith, a);
  lighter = lighter_append (x ∷ []) h.tokens (mark s ∷ []) (mark sign.Open ∷ p) (lighter_one x (mark s) i plain) h.lighter;
  proper = λ n. (spelled, h.proper n.1);
  phrase = phrase_chosen s p follows h.phrase;
}

pub covers_as : {p q : List Printed} {ts us : List Lexeme} → p ≡ q → Covers q ts us → Covers p ts us
covers_as {ts} {us} e h = subst (λ v. Covers v ts us) (sym e) h

-- ---- whole lists

-- one more token counts if its sign passes
count_one : (test : Sign → Bool) (x : Lexeme) (xs : List Lexeme) (k : ℕ) → count_signs test (take (suc k + 1) (x ∷ xs)) ≡ one_if (test x.sign) + count_signs test (take (k + 1) xs)
count_one test x xs k = let n : suc k + 1 ≡ suc (k + 1) = omega arith in ap (λ m. count_signs test (take m (x ∷ xs))) n

-- the token number k opens a bracket of the depth that none may have, behind a and b others
abbrev Reaches : ℕ → ℕ → List Lexeme → ℕ → Lexeme → Type 0
Reaches a b xs k x = (slice_get xs k ≡ Some x) × (opens x.sign ≡ true) × (count_signs opens (take (k + 1) xs) + a ≡ (count_signs closes (take k xs) + b) + 33)

first_stays : (x : Lexeme) (xs : List Lexeme) (a b : ℕ) → a ≤ b + 32 → (Reaches a b (x ∷ xs) 0 x → ⊥) → opens x.sign ≡ true → a + 1 ≤ b + 32
first_stays x xs a b h f e = go (cases_lt (b + 32) (a + 1))
  where
    go : ((b + 32 < a + 1) ⊎ (a + 1 ≤ b + 32)) → a + 1 ≤ b + 32
    go (inr k) = k
    go (inl k) = let o : one_if (opens x.sign) ≡ 1 = ap one_if e in absurd (f (refl, e, omega (arith, o, h, k)))

after_first : (x : Lexeme) (a b : ℕ) (v : Bool) → opens x.sign ≡ v → a ≤ b + 32 → (opens x.sign ≡ true → a + 1 ≤ b + 32) → a + one_if v ≤ (b + one_if (closes x.sign)) + 32
after_first x a b true e h f = let k = f e in omega (arith, k)
after_first x a b false e h f = omega (arith, h)

reaches_later : (x y : Lexeme) (xs : List Lexeme) (a b k : ℕ) → Reaches (a + one_if (opens x.sign)) (b + one_if (closes x.sign)) xs k y → Reaches a b (x ∷ xs) (suc k) y
reaches_later x y xs a b k r = let d = r.2 in let n = count_one opens x xs k in (r.0, r.1, omega (arith, d, n))

reaches_earlier : (x y : Lexeme) (xs : List Lexeme) (a b k : ℕ) → Reaches a b (x ∷ xs) (suc k) y → Reaches (a + one_if (opens x.sign)) (b + one_if (closes x.sign)) xs k y
reaches_earlier x y xs a b k r = let d = r.2 in let n = count_one opens x xs k in (r.0, r.1, omega (arith, d, n))

-- tokens of shallow brackets stay in
shallow_stays : (xs : List Lexeme) (a b : ℕ) → a ≤ b + 32 → ((k : ℕ) (x : Lexeme) → Reaches a b xs k x → ⊥) → StaysIn lexeme_sign a b xs
unfolding StaysIn
shallow_stays [] a b h f = tt
shallow_stays (x ∷ xs) a b h f =
    let here = first_stays x xs a b h (f 0 x) in
    (here, shallow_stays xs (a + one_if (opens x.sign)) (b + one_if (closes x.sign)) (after_first x a b (opens x.sign) refl h here) (λ k y r. f (suc k) y (reaches_later x y xs a b k r)))

-- and those that stay in are shallow
stays_shallow : (xs : List Lexeme) (a b : ℕ) → StaysIn lexeme_sign a b xs → (k : ℕ) (x : Lexeme) → Reaches a b xs k x → ⊥
unfolding StaysIn
stays_shallow [] a b s k x r = absurd (none_there k x r.0)
  where
    none_there : (k : ℕ) (x : Lexeme) → slice_get {X = Lexeme} [] k ≡ Some x → ⊥
    none_there zero x e = absurd cc
    none_there (suc k) x e = absurd cc
stays_shallow (y ∷ xs) a b s zero x r =
    let q : y.sign ≡ x.sign = same y x r.0 in
    let o : opens y.sign ≡ true = ap opens q ∙ r.1 in
    let k = s.0 o in let c : one_if (opens y.sign) ≡ 1 = ap one_if o in let d = r.2 in
    absurd (omega (arith, k, c, d))
  where
    same : (y x : Lexeme) → Some y ≡ Some x → y.sign ≡ x.sign
    same y x e = let q : y ≡ x = cc in ap (λ (v : Lexeme). v.sign) q
stays_shallow (y ∷ xs) a b s (suc k) x r = stays_shallow xs (a + one_if (opens y.sign)) (b + one_if (closes y.sign)) s.1 k x (reaches_earlier y x xs a b k r)

printed_sign : (t : Printed) (x : Lexeme) → IsPrinted t x → x.sign ≡ sign_of t
printed_sign (mark s) x i = i
printed_sign (name t) x i = i.0
printed_sign (number n) x i = i.0

-- tokens that are the printed ones stay in where these do
printed_stays : {p : List Printed} {ts us : List Lexeme} (a b : ℕ) → Begins p ts us → us ≡ [] → StaysIn sign_of a b p → StaysIn lexeme_sign a b ts
unfolding StaysIn
printed_stays a b (none {ts}) e s = subst (λ v. StaysIn lexeme_sign a b v) (sym e) tt
printed_stays a b (next {t} {x} {ts} i g) e s =
    let q = printed_sign t x i in
    let o = ap (λ v. one_if (opens v)) q in let c = ap (λ v. one_if (closes v)) q in (
      λ h. s.0 (ap opens (sym q) ∙ h),
      printed_stays (a + one_if (opens x.sign)) (b + one_if (closes x.sign)) g e (lower_printed _ (a + one_if (opens (sign_of t))) (b + one_if (closes (sign_of t))) (a + one_if (opens x.sign)) (b + one_if (closes x.sign)) (omega (arith, o, c)) s.1),
    )
  where
    lower_printed : (p : List Printed) (a b c d : ℕ) → c + b ≤ a + d → StaysIn sign_of a b p → StaysIn sign_of c d p
    lower_printed p a b c d h s = lower sign_of p a b c d h s

reached : (xs : List Lexeme) (k : ℕ) (x : Lexeme) → Reaches 0 0 xs k x → OpensAt deepest xs k
reached xs k x r = let d = r.2 in record { token = x; stands = r.0; opening = r.1; deep = omega (arith, d) }

reaching : (xs : List Lexeme) (k : ℕ) (o : OpensAt deepest xs k) → Reaches 0 0 xs k o.token
reaching xs k o = let d = o.deep in (o.stands, o.opening, omega (arith, d))

whole_tokens : {p : List Printed} {ts : List Lexeme} (c : Covers p ts []) → ts ≡ c.tokens
whole_tokens c = c.cut ∙ append-nil c.tokens

-- what is printed of shallow tokens is shallow
pub still_shallow : {p : List Printed} {ts us : List Lexeme} → Covers p ts [] → IsShallow ts → Begins p us [] → IsShallow us
still_shallow {p} {ts} {us} c h g k o =
    let s : StaysIn lexeme_sign 0 0 ts = shallow_stays ts 0 0 (omega arith) (λ j x r. h j (reached ts j x r)) in
    let t : StaysIn lexeme_sign 0 0 c.tokens = subst (λ v. StaysIn lexeme_sign 0 0 v) (whole_tokens c) s in
    stays_shallow us 0 0 (printed_stays 0 0 g refl (c.lighter.stays 0 0 t)) k o.token (reaching us k o)

-- and no longer
pub no_longer : {p : List Printed} {ts : List Lexeme} → Covers p ts [] → Each IsNatural ts → length p ≤ length ts
no_longer {p} {ts} c h =
    let e = whole_tokens c in
    let a = c.shorter (subst (λ v. Each IsNatural v) e h) in
    let l = ap length e in
    omega (arith, a, l)

-- and made of tokens that a text can have, which stay apart
pub all_proper : {p : List Printed} {ts : List Lexeme} → Covers p ts [] → Each IsSound ts → AreProper p
all_proper c h = c.proper (subst (λ v. Each IsSound v) (whole_tokens c) h)
