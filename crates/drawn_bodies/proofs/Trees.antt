-- A tree of choices: where it ends, and where it asks for one, with what follows each.
use Rattle.std.proofs.Common.{◌≡◌, ◌<◌, ◌^◌, ◌+◌, ℕ, zero, suc, ℤ, Bool, true, false, if◌then◌else◌, List, [], ◌∷◌, ◌++◌, length, refl, ap, sym, subst, ◌∙◌, Option, Some, None, arith, append-nil, append_assoc}
use Rattle.std.specs.Prelude.{Contains, is_some, unwrap_or}
use Rattle.std.specs.Option.{option_map}
use Rattle.std.specs.List.{list_any}
use Rattle.std.specs.Ordering.{int_eq}
use Rattle.std.proofs.lemmas.Bool.Decides.{Decides-int_eq}
use Rattle.std.proofs.lemmas.Map.Views.{Contains-from_any}
use Rattle.std.proofs.lemmas.Option.{get_or_from_slice_get, slice_get_within}
use Rattle.tap_base.specs.Option.{◌>>=◌, provided}
use Rattle.tap_base.proofs.ListFacts.{element_at}
use Rattle.tap_exec.specs.declared.running.Running.{Running as Open}
use Rattle.tap_exec.specs.Running.{Running}
use Rattle.tap_exec.specs.Sourced.{Source}
use Rattle.tap_exec.proofs.Quiet.{with_choices}
use Rattle.tap_exec.specs.Execution.{is_empty}
use Rattle.rand_pcg.specs.Lcg.{Lcg}
use Rattle.rand_pcg.specs.Pcg.{multiplier_64}
use Rattle.rand_pcg.proofs.LcgLemmas.{advance_zero}
use Rattle.drawn_choices.specs.declared.drawing.Drawing.{Drawing}
use Rattle.drawn_choices.specs.Drawing.{drawing}
use Rattle.drawn_choices.specs.Draws.{AreDrawn, AreOptions, AreRising, CanTake, IsDraw, Leading, after_words, drawn, option_drawn, word_from}
use Rattle.drawn_choices.proofs.MoreDrawn.{none_drawn}
use Rattle.drawn_choices.proofs.Words.{after_both, drawn_below, word_behind, word_fits}
use Rattle.drawn_bodies.specs.Drawn.{CanBeDrawn, DrawsToEnd, HasOptions}

pub data Tree : Type 0 where
  ends : Running → Tree
  asks : List ℤ → (ℤ → Tree) → Tree

-- what choices lead to
abbrev pub walk : Tree → List ℤ → Option Running
walk (ends t) cs = Some (with_choices t cs)
walk (asks options f) [] = None
walk (asks options f) (x ∷ cs) = if list_any (int_eq x) options then walk (f x) cs else None

-- the same, with choices from a source
abbrev pub with_source : {C : Type 0} → Running → C → Open C
with_source r c = record { cells = r.cells; timers = r.timers; sends = r.sends; choices = c }

-- a source gives options alone
abbrev pub Gives : {C : Type 0} → Source C → Type 0
Gives {C = C} source = (options : List ℤ) (c : C) (x : ℤ) (left : C) → source options c ≡ Some (x, left) → list_any (int_eq x) options ≡ true

-- what a source leads to
abbrev pub walk_by : {C : Type 0} → Source C → Tree → C → Option (Open C)
walk_by source (ends t) c = Some (with_source t c)
walk_by source (asks options f) c = source options c >>= λ x. walk_by source (f x.0) x.1

-- there are options, in rising order
abbrev pub AreAsked : List ℤ → Type 0
AreAsked options = AreRising options × (0 < length options)

-- the fact holds wherever it ends, and it asks for some option wherever it asks
abbrev pub EachEnd : (Running → Type 0) → Tree → Type 0
EachEnd P (ends t) = P t
EachEnd P (asks options f) = AreAsked options × ((x : ℤ) → EachEnd P (f x))

abbrev pub whole : Option Running → Bool
whole o = is_some (o >>= λ after. provided (is_empty after.choices) after)

-- whether choices lead to an end, and are all taken
abbrev pub leads : Tree → Leading
leads t cs = whole (walk t cs)

-- ---- options

among : (x : ℤ) (xs : List ℤ) → list_any (int_eq x) xs ≡ true → Contains xs x
among x xs e = Contains-from_any (λ a b q. (Decides-int_eq a b).0 q) x xs e

same_test : (x : ℤ) → int_eq x x ≡ true
same_test x = (Decides-int_eq x x).1 refl

or_true : (x : ℤ) (xs : List ℤ) (y : ℤ) → list_any (int_eq x) xs ≡ true → list_any (int_eq x) (y ∷ xs) ≡ true
or_true x xs y e = by_test (int_eq x y) refl where
  by_test : (b : Bool) → int_eq x y ≡ b → list_any (int_eq x) (y ∷ xs) ≡ true
  by_test true q = rw q refl
  by_test false q = rw (q, e) refl

is_among : (x : ℤ) (xs : List ℤ) → Contains xs x → list_any (int_eq x) xs ≡ true
is_among x [] (k, l, e) = absurd (omega (arith, l))
is_among x (y ∷ ys) (zero, l, e) = let q : int_eq x y ≡ true = (Decides-int_eq x y).1 (sym e) in rw q refl
is_among x (y ∷ ys) (suc k, l, e) = or_true x ys y (is_among x ys (k, omega (arith, l), e))

-- some choices lead to an end
record Ending (t : Tree) : Type 0 where
  choices : List ℤ
  ended : leads t choices ≡ true

-- with an option it goes on as what follows it
goes_by : (options : List ℤ) (f : ℤ → Tree) (x : ℤ) (cs : List ℤ) → list_any (int_eq x) options ≡ true → leads (asks options f) (x ∷ cs) ≡ leads (f x) cs
goes_by options f x cs e = ap (λ (b : Bool). whole (if b then walk (f x) cs else None)) e

-- and with nothing else
stops_by : (options : List ℤ) (f : ℤ → Tree) (x : ℤ) (cs : List ℤ) → list_any (int_eq x) options ≡ false → leads (asks options f) (x ∷ cs) ≡ false
stops_by options f x cs e = ap (λ (b : Bool). whole (if b then walk (f x) cs else None)) e

module _ (P : Running → Type 0) where
  some_end : (t : Tree) → EachEnd P t → Ending t
  some_end (ends r) h = record { choices = []; ended = refl }
  some_end (asks [] f) h = absurd (omega (arith, h.0.1))
  some_end (asks (x ∷ options) f) h =
      let more = some_end (f x) (h.1 x) in
      record { choices = x ∷ more.choices; ended = goes_by (x ∷ options) f x more.choices (is_among x (x ∷ options) (0, omega arith, refl)) ∙ more.ended }

  first_options : (options : List ℤ) (f : ℤ → Tree) → EachEnd P (asks options f) → AreOptions (leads (asks options f)) [] options
  first_options options f h = record {
    rising = h.0.0;
    all = λ x. (takes x, taken x);
  } where
    takes : (x : ℤ) → Contains options x → CanTake (leads (asks options f)) [] x
    takes x i = let more = some_end (f x) (h.1 x) in record { behind = more.choices; ends = goes_by options f x more.choices (is_among x options i) ∙ more.ended }

    taken : (x : ℤ) → CanTake (leads (asks options f)) [] x → Contains options x
    taken x t = by_test (list_any (int_eq x) options) refl where
      by_test : (b : Bool) → list_any (int_eq x) options ≡ b → Contains options x
      by_test true e = among x options e
      by_test false e = let never = stops_by options f x t.behind e in let ended : leads (asks options f) (x ∷ t.behind) ≡ true = t.ends in absurd cc

-- ---- behind some choices

-- one is what the other is behind these choices
abbrev Behind : Leading → List ℤ → Leading → Type 0
Behind one front other = (cs : List ℤ) → one (front ++ cs) ≡ other cs

options_behind : (one other : Leading) (front before options : List ℤ) → Behind one front other → AreOptions other before options → AreOptions one (front ++ before) options
options_behind one other front before options same h = record {
  rising = h.rising;
  all = λ x. ((λ i. there x ((h.all x).0 i)), (λ t. (h.all x).1 (back x t)));
} where
  moved : (x : ℤ) (behind : List ℤ) → one ((front ++ before) ++ x ∷ behind) ≡ other (before ++ x ∷ behind)
  moved x behind = ap one (append_assoc front before (x ∷ behind)) ∙ same (before ++ x ∷ behind)

  there : (x : ℤ) → CanTake other before x → CanTake one (front ++ before) x
  there x t = record { behind = t.behind; ends = moved x t.behind ∙ t.ends }

  back : (x : ℤ) → CanTake one (front ++ before) x → CanTake other before x
  back x t = record { behind = t.behind; ends = sym (moved x t.behind) ∙ t.ends }

draw_behind : (one other : Leading) (front before : List ℤ) (word : ℕ) (x : ℤ) → Behind one front other → IsDraw other word before x → IsDraw one word (front ++ before) x
draw_behind one other front before word x same h = record {
  goes_on = same before ∙ h.goes_on;
  options = h.options;
  are = options_behind one other front before h.options same h.are;
  takes = h.takes;
}

-- ---- options after any choices

no_options : (one : Leading) (before : List ℤ) → ((x : ℤ) (behind : List ℤ) → one (before ++ x ∷ behind) ≡ false) → HasOptions one before
no_options one before none = record {
  options = [];
  are = record { rising = tt; all = λ x. ((λ i. absurd (omega (arith, i.1))), (λ t. never x t)) };
} where
  never : (x : ℤ) → CanTake one before x → Contains [] x
  never x t = let no = none x t.behind in let yes = t.ends in absurd cc

more_left : (before : List ℤ) (x : ℤ) (behind : List ℤ) → is_empty (before ++ x ∷ behind) ≡ false
more_left [] x behind = refl
more_left (y ∷ ys) x behind = refl

module _ (P : Running → Type 0) where
  options_after : (t : Tree) → EachEnd P t → (before : List ℤ) → HasOptions (leads t) before
  options_after (ends r) h before =
      no_options (leads (ends r)) before (λ x behind. ap (λ (b : Bool). is_some (provided b (with_choices r (before ++ x ∷ behind)))) (more_left before x behind))
  options_after (asks options f) h [] = record { options = options; are = first_options P options f h }
  options_after (asks options f) h (y ∷ ys) = by_test (list_any (int_eq y) options) refl (options_after (f y) (h.1 y) ys) where
    by_test : (b : Bool) → list_any (int_eq y) options ≡ b → HasOptions (leads (f y)) ys → HasOptions (leads (asks options f)) (y ∷ ys)
    by_test true e more = record { options = more.options; are = options_behind (leads (asks options f)) (leads (f y)) (y ∷ []) ys more.options (λ cs. goes_by options f y cs e) more.are }
    by_test false e more = no_options (leads (asks options f)) (y ∷ ys) (λ x behind. stops_by options f y (ys ++ x ∷ behind) e)

  -- ---- draws

  first_then : (one other : Leading) (word : ℕ → ℕ) (k : ℕ) (x : ℤ) (xs : List ℤ) → IsDraw one (word k) [] x → Behind one (x ∷ []) other → AreDrawn other word (k + 1) xs → AreDrawn one word k (x ∷ xs)
  first_then one other word k x xs first same more [] behind y e =
      let is : x ≡ y = cc in
      let here : k ≡ k + 0 = omega arith in
      subst (λ (n : ℕ). IsDraw one (word n) [] y) here (subst (IsDraw one (word k) []) is first)
  first_then one other word k x xs first same more (b ∷ before) behind y e =
      let is : x ≡ b = cc in
      let rest : xs ≡ before ++ y ∷ behind = cc in
      let next : k + 1 + length before ≡ k + length (b ∷ before) = omega arith in
      let moved : IsDraw one (word (k + 1 + length before)) (x ∷ before) y = draw_behind one other (x ∷ []) before (word (k + 1 + length before)) y same (more before behind y rest) in
      subst (λ (n : ℕ). IsDraw one (word n) (b ∷ before) y) next (subst (λ (z : ℤ). IsDraw one (word (k + 1 + length before)) (z ∷ before) y) is moved)

  draws : (word : ℕ → ℕ) → ((n : ℕ) → word n < 2 ^ 32) → (t : Tree) → EachEnd P t → (k : ℕ) → DrawsToEnd (leads t) word k
  draws word fits (ends r) h k = record { choices = []; ends = refl; drawn = none_drawn (leads (ends r)) word k }
  draws word fits (asks options f) h k =
      let place = drawn (word k) (length options) in
      let there : place < length options = drawn_below (word k) (length options) (fits k) h.0.1 in
      let x = element_at options place there in
      let is : list_any (int_eq x.0) options ≡ true = is_among x.0 options (place, there, get_or_from_slice_get options place x.0 x.0 x.1) in
      let more = draws word fits (f x.0) (h.1 x.0) (k + 1) in
      record {
        choices = x.0 ∷ more.choices;
        ends = goes_by options f x.0 more.choices is ∙ more.ends;
        drawn = first_then (leads (asks options f)) (leads (f x.0)) word k x.0 more.choices
            (record { goes_on = refl; options = options; are = first_options P options f h; takes = x.1 })
            (λ cs. goes_by options f x.0 cs is)
            more.drawn;
      }

  -- what is led as a tree leads is drawn as it is
  pub can_be_drawn : (one : Leading) (t : Tree) → EachEnd P t → ((cs : List ℤ) → one cs ≡ leads t cs) → CanBeDrawn one
  can_be_drawn one t h same = record {
    options = λ before. let o = options_after t h before in record { options = o.options; are = options_behind one (leads t) [] before o.options same o.are };
    draws = λ word k fits.
        let d = draws word fits t h k in
        record {
          choices = d.choices;
          ends = same d.choices ∙ d.ends;
          drawn = λ before behind x is. draw_behind one (leads t) [] before (word (k + length before)) x same (d.drawn before behind x is);
        };
  }

  -- ---- a generator

  -- what a generator leads to, and the choices that it gives
  pub record WalksDrawn (t : Tree) (g : Lcg) (taken : List ℤ) : Type 0 where
    pub choices : List ℤ
    pub end : Running
    pub good : P end
    pub by_list : walk t choices ≡ Some (with_choices end [])
    pub by_draws : walk_by drawing t (record { generator = g; taken = taken }) ≡ Some (with_source end (record { generator = after_words (length choices) g; taken = taken ++ choices }))
    pub drawn : AreDrawn (leads t) (word_from g) 0 choices

  drawn_one : (options taken : List ℤ) (g : Lcg) (x : ℤ) → option_drawn options (word_from g 0) ≡ Some x
      → drawing options (record { generator = g; taken = taken }) ≡ Some (x, record { generator = after_words 1 g; taken = taken ++ x ∷ [] })
  drawn_one options taken g x e = rw e refl

  drawn_behind : (one : Leading) (g : Lcg) (cs : List ℤ) → AreDrawn one (word_from (after_words 1 g)) 0 cs → AreDrawn one (word_from g) 1 cs
  drawn_behind one g cs h before behind x is =
      let next : 1 + (0 + length before) ≡ 1 + length before = omega arith in
      subst (λ (w : ℕ). IsDraw one w before x) (word_behind 1 (0 + length before) g ∙ ap (word_from g) next) (h before behind x is)

  pub walks_drawn : (t : Tree) → EachEnd P t → (g : Lcg) (taken : List ℤ) → WalksDrawn t g taken
  walks_drawn (ends r) h g taken = record {
    choices = [];
    end = r;
    good = h;
    by_list = refl;
    by_draws =
        ap (λ (from : Drawing). Some (with_source r from))
        (ap (λ (i : Lcg). record { generator = i; taken = taken }) (sym (advance_zero 64 multiplier_64 g)) ∙ ap (λ (cs : List ℤ). record { generator = after_words 0 g; taken = cs }) (sym (append-nil taken)));
    drawn = none_drawn (leads (ends r)) (word_from g) 0;
  }
  walks_drawn (asks options f) h g taken =
      let place = drawn (word_from g 0) (length options) in
      let there : place < length options = drawn_below (word_from g 0) (length options) (word_fits g 0) h.0.1 in
      let x = element_at options place there in
      let is : list_any (int_eq x.0) options ≡ true = is_among x.0 options (place, there, get_or_from_slice_get options place x.0 x.0 x.1) in
      let more = walks_drawn (f x.0) (h.1 x.0) (after_words 1 g) (taken ++ x.0 ∷ []) in
      record {
        choices = x.0 ∷ more.choices;
        end = more.end;
        good = more.good;
        by_list = ap (λ (b : Bool). if b then walk (f x.0) more.choices else None) is ∙ more.by_list;
        by_draws =
            ap (λ (o : Option (ℤ × Drawing)). o >>= λ y. walk_by drawing (f y.0) y.1) (drawn_one options taken g x.0 x.1) ∙ more.by_draws
            ∙ ap (λ (i : Lcg). Some (with_source more.end (record { generator = i; taken = (taken ++ x.0 ∷ []) ++ more.choices }))) (after_both 1 (length more.choices) g ∙ ap (λ (n : ℕ). after_words n g) (counted more.choices))
            ∙ ap (λ (cs : List ℤ). Some (with_source more.end (record { generator = after_words (length (x.0 ∷ more.choices)) g; taken = cs }))) (append_assoc taken (x.0 ∷ []) more.choices);
        drawn = first_then (leads (asks options f)) (leads (f x.0)) (word_from g) 0 x.0 more.choices
            (record { goes_on = refl; options = options; are = first_options P options f h; takes = x.1 })
            (λ cs. goes_by options f x.0 cs is)
            (drawn_behind (leads (f x.0)) g more.choices more.drawn);
      } where
        counted : (cs : List ℤ) → 1 + length cs ≡ suc (length cs)
        counted cs = omega arith

-- what is led as a tree leads is drawn as it is
pub drawn_as : (one : Leading) (t : Tree) (word : ℕ → ℕ) (k : ℕ) (choices : List ℤ) → ((cs : List ℤ) → one cs ≡ leads t cs) → AreDrawn (leads t) word k choices → AreDrawn one word k choices
drawn_as one t word k choices same h before behind x is = draw_behind one (leads t) [] before (word (k + length before)) x same (h before behind x is)

-- a generator gives options alone
pub gives_drawing : Gives drawing
gives_drawing options c x left e = by_drawn (option_drawn options (word_from c.generator 0)) refl e where
  by_drawn : (o : Option ℤ) → option_drawn options (word_from c.generator 0) ≡ o
      → (o >>= λ y. let given : ℤ × Drawing = (y, record { generator = after_words 1 c.generator; taken = c.taken ++ y ∷ [] }) in Some given) ≡ Some (x, left) → list_any (int_eq x) options ≡ true
  by_drawn None is i = absurd cc
  by_drawn (Some y) is i =
      let same : y ≡ x = ap (λ (q : Option (ℤ × Drawing)). unwrap_or (option_map (λ (z : ℤ × Drawing). z.0) q) y) i in
      let place = drawn (word_from c.generator 0) (length options) in
      let there : place < length options = slice_get_within options place y is in
      subst (λ (z : ℤ). list_any (int_eq z) options ≡ true) same (is_among y options (place, there, get_or_from_slice_get options place y y is))
