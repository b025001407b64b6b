-- All broken rules stand in order.
use Rattle.std.proofs.Common.{◌≡◌, ◌+◌, ◌-◌, ◌<◌, ◌≤◌, ℕ, zero, suc, Bool, true, false, List, [], ◌∷◌, ◌++◌, map, length, get_or, ◌⊎◌, inl, inr, refl, sym, ◌∙◌, lit≤, add-one, arith}
use Rattle.std.specs.Prelude.{nat_le, nat_lt}
use Rattle.std.specs.Cmp.Lexicographic.{slice_cmp}
use Rattle.std.specs.List.Sorted.{IsSortedByKey}
use Rattle.std.specs.Ordering.{is_lt, nat_cmp}
use Rattle.std.proofs.lemmas.Bool.{cases_eq, le-ltb, eq-eqb, ne_eqb}
use Rattle.tap_base.specs.ListWords.{by_number}
use Rattle.register_code.specs.declared.bad.BadCode.{BadCode}
use Rattle.register_code.specs.declared.bad.Part.TheVariants as part
use Rattle.register_code.specs.declared.code.Code.{Code}
use Rattle.register_code.specs.declared.code.CodeAction.{CodeAction}
use Rattle.register_code.specs.declared.code.CodeProcess.{CodeProcess}
use Rattle.register_code.specs.declared.instr.Instr.{Instr}
use Rattle.register_code.specs.Declarations.{fields_fit, guard_fits, limits_kept, temporaries_fit, values_fit}
use Rattle.register_code.specs.Loops.{cost, sends}
use Rattle.register_code.specs.Jumping.{jumps_well, loops_well}
use Rattle.register_code.specs.Naming.{names_exist}
use Rattle.register_code.specs.Results.{delay_fits, has_options, index_fits, result_fits}
use Rattle.register_code.specs.Rules.{broken, broken_rules, unless}
use Rattle.register_code.specs.Sending.{can_send}
use Rattle.register_code.specs.Sites.{Site}
use Rattle.register_code.specs.Verified.{action_breaks, breaks, instr_breaks, part_breaks, process_breaks, site_of, where_broken, whole_breaks, whole_rules}
use Rattle.action_code.specs.Order.{part_number, place_of_break, whole_number}

-- ---- lists of numbers, the first number that differs deciding

abbrev Upto : List ℕ → List ℕ → Type 0
Upto xs ys = is_lt (slice_cmp nat_cmp ys xs) ≡ false

first_less : (a b : ℕ) (xs ys : List ℕ) → a < b → Upto (a ∷ xs) (b ∷ ys)
first_less a b xs ys l =
    let not_below : nat_lt b a ≡ false = le-ltb b a (omega (arith, l)) in
    let other = ne_eqb b a (λ e. omega (arith, l, e)) in rw (not_below, other) refl

first_same : (a b : ℕ) (xs ys : List ℕ) → a ≡ b → Upto xs ys → Upto (a ∷ xs) (b ∷ ys)
first_same a b xs ys e h =
    let not_below : nat_lt b a ≡ false = le-ltb b a (omega (arith, e)) in
    let same = eq-eqb b a (sym e) in rw (not_below, same) h

first_upto : (a b : ℕ) (xs ys : List ℕ) → a ≤ b → Upto xs ys → Upto (a ∷ xs) (b ∷ ys)
first_upto a b xs ys l h = by_case (cases_eq a b) where
  by_case : (a ≡ b) ⊎ (a ≡ b → ⊥) → Upto (a ∷ xs) (b ∷ ys)
  by_case (inl e) = first_same a b xs ys e h
  by_case (inr ne) = first_less a b xs ys (omega (arith, l, ne))

-- ---- what holds of each, and lists in order

abbrev Each : {A : Type 0} → (A → Type 0) → List A → Type 0
Each P [] = Unit {0}
Each P (x ∷ xs) = P x × Each P xs

abbrev Up : {A : Type 0} → (A → List ℕ) → List A → Type 0
Up key [] = Unit {0}
Up key (x ∷ xs) = Each (λ y. Upto (key x) (key y)) xs × Up key xs

each_of : {A : Type 0} (P Q : A → Type 0) (xs : List A) → ((x : A) → P x → Q x) → Each P xs → Each Q xs
each_of P Q [] f h = tt
each_of P Q (x ∷ xs) f h = (f x h.0, each_of P Q xs f h.1)

each_two : {A : Type 0} (P Q R : A → Type 0) (xs : List A) → ((x : A) → P x → Q x → R x) → Each P xs → Each Q xs → Each R xs
each_two P Q R [] f h k = tt
each_two P Q R (x ∷ xs) f h k = (f x h.0 k.0, each_two P Q R xs f h.1 k.1)

each_both : {A : Type 0} (P : A → Type 0) (xs ys : List A) → Each P xs → Each P ys → Each P (xs ++ ys)
each_both P [] ys h k = k
each_both P (x ∷ xs) ys h k = (h.0, each_both P xs ys h.1 k)

each_map : {A B : Type 0} (f : A → B) (P : B → Type 0) (xs : List A) → Each (λ x. P (f x)) xs → Each P (map f xs)
each_map f P [] h = tt
each_map f P (x ∷ xs) h = (h.0, each_map f P xs h.1)

each_number : {A B : Type 0} (P : B → Type 0) (f : ℕ → A → List B) → ((n : ℕ) (x : A) → Each P (f n x)) → (n : ℕ) (xs : List A) → Each P (by_number n f xs)
each_number P f h n [] = tt
each_number P f h n (x ∷ xs) = each_both P (f n x) (by_number (n + 1) f xs) (h n x) (each_number P f h (n + 1) xs)

up_both : {A : Type 0} (key : A → List ℕ) (xs ys : List A) → Up key xs → Up key ys → Each (λ x. Each (λ y. Upto (key x) (key y)) ys) xs → Up key (xs ++ ys)
up_both key [] ys h k l = k
up_both key (x ∷ xs) ys h k l = (each_both (λ y. Upto (key x) (key y)) xs ys h.0 l.0, up_both key xs ys h.1 k l.1)

up_map : {A B : Type 0} (f : A → B) (key : B → List ℕ) (xs : List A) → Up (λ x. key (f x)) xs → Up key (map f xs)
up_map f key [] h = tt
up_map f key (x ∷ xs) h = (each_map f (λ y. Upto (key (f x)) (key y)) xs h.0, up_map f key xs h.1)

-- one number more in front, the same for all
up_same : {A : Type 0} (head : A → ℕ) (key : A → List ℕ) (n : ℕ) (xs : List A) → Each (λ x. head x ≡ n) xs → Up key xs → Up (λ x. head x ∷ key x) xs
up_same head key n [] h k = tt
up_same head key n (x ∷ xs) h k = (
  each_two (λ y. head y ≡ n) (λ y. Upto (key x) (key y)) (λ y. Upto (head x ∷ key x) (head y ∷ key y)) xs (λ y e u. first_same (head x) (head y) (key x) (key y) (h.0 ∙ sym e) u) h.1 k.0,
  up_same head key n xs h.1 k.1,
)

-- what stands at a number, and behind it
each_cross : {A : Type 0} (head : A → ℕ) (key : A → List ℕ) (n : ℕ) (xs ys : List A) → Each (λ x. head x ≡ n) xs → Each (λ y. n < head y) ys → Each (λ x. Each (λ y. Upto (head x ∷ key x) (head y ∷ key y)) ys) xs
each_cross head key n [] ys h k = tt
each_cross head key n (x ∷ xs) ys h k = (
  each_of (λ y. n < head y) (λ y. Upto (head x ∷ key x) (head y ∷ key y)) ys (λ y l. first_less (head x) (head y) (key x) (key y) (omega (arith, h.0, l))) k,
  each_cross head key n xs ys h.1 k,
)

from_number : {A B : Type 0} (head : B → ℕ) (f : ℕ → A → List B) → ((n : ℕ) (x : A) → Each (λ b. head b ≡ n) (f n x)) → (m n : ℕ) (xs : List A) → m ≤ n → Each (λ b. m ≤ head b) (by_number n f xs)
from_number head f h m n [] l = tt
from_number head f h m n (x ∷ xs) l =
    each_both (λ b. m ≤ head b) (f n x) (by_number (n + 1) f xs) (each_of (λ b. head b ≡ n) (λ b. m ≤ head b) (f n x) (λ b e. omega (arith, l, e)) (h n x)) (from_number head f h m (n + 1) xs (omega (arith, l)))

up_number : {A B : Type 0} (head : B → ℕ) (key : B → List ℕ) (f : ℕ → A → List B) → ((n : ℕ) (x : A) → Each (λ b. head b ≡ n) (f n x)) → ((n : ℕ) (x : A) → Up key (f n x)) → (n : ℕ) (xs : List A)
    → Up (λ b. head b ∷ key b) (by_number n f xs)
up_number head key f h k n [] = tt
up_number head key f h k n (x ∷ xs) =
    let later = each_of (λ b. n + 1 ≤ head b) (λ b. n < head b) (by_number (n + 1) f xs) (λ b l. omega (arith, l)) (from_number head f h (n + 1) (n + 1) xs (omega arith)) in
    up_both (λ b. head b ∷ key b) (f n x) (by_number (n + 1) f xs) (up_same head key n (f n x) (h n x) (k n x)) (up_number head key f h k (n + 1) xs) (each_cross head key n (f n x) (by_number (n + 1) f xs) (h n x) later)

-- ---- the rules of one instruction

-- rules on single instructions, in order, none above m
record Rules (m : ℕ) (rules : List ℕ) : Type 0 where
  least : Each (λ r. 4 ≤ r) rules
  most : Each (λ r. r ≤ m) rules
  single : Each (λ r. whole_number r ≡ 0) rules
  up : Up (λ r. r ∷ []) rules

one_upto : (m : ℕ) (xs ys : List ℕ) → Each (λ r. r ≤ m) xs → Each (λ r. m ≤ r) ys → Each (λ x. Each (λ y. Upto (x ∷ []) (y ∷ [])) ys) xs
one_upto m [] ys h k = tt
one_upto m (x ∷ xs) ys h k = (each_of (λ r. m ≤ r) (λ y. Upto (x ∷ []) (y ∷ [])) ys (λ y l. first_upto x y [] [] (omega (arith, h.0, l)) refl) k, one_upto m xs ys h.1 k)

more : (m n : ℕ) (rules : List ℕ) (kept : Bool) → Rules m rules → m ≤ n → 4 ≤ n → whole_number n ≡ 0 → Rules n (rules ++ unless kept n)
more m n rules kept h l k s = record {
  least = each_both (λ r. 4 ≤ r) rules (unless kept n) h.least (of_one (λ r. 4 ≤ r) kept k);
  most = each_both (λ r. r ≤ n) rules (unless kept n) (each_of (λ r. r ≤ m) (λ r. r ≤ n) rules (λ r e. omega (arith, e, l)) h.most) (of_one (λ r. r ≤ n) kept (omega arith));
  single = each_both (λ r. whole_number r ≡ 0) rules (unless kept n) h.single (of_one (λ r. whole_number r ≡ 0) kept s);
  up = up_both (λ r. r ∷ []) rules (unless kept n) h.up (alone kept) (one_upto m rules (unless kept n) h.most (of_one (λ r. m ≤ r) kept l));
} where
  of_one : (P : ℕ → Type 0) (b : Bool) → P n → Each P (unless b n)
  of_one P true p = tt
  of_one P false p = (p, tt)

  alone : (b : Bool) → Up (λ r. r ∷ []) (unless b n)
  alone true = tt
  alone false = (tt, tt)

rules_up : (names result index options sent jumps loops delay : Bool) → Rules 13 (broken_rules names result index options sent jumps loops delay)
rules_up false result index options sent jumps loops delay = record { least = (lit≤ tt, tt); most = (lit≤ tt, tt); single = (refl, tt); up = (tt, tt) }
rules_up true result index options sent jumps loops delay =
    let none : Rules 4 [] = record { least = tt; most = tt; single = tt; up = tt } in
    let h5 = more 4 5 [] result none (lit≤ tt) (lit≤ tt) refl in
    let h6 = more 5 6 _ index h5 (lit≤ tt) (lit≤ tt) refl in
    let h7 = more 6 7 _ options h6 (lit≤ tt) (lit≤ tt) refl in
    let h8 = more 7 8 _ sent h7 (lit≤ tt) (lit≤ tt) refl in
    let h9 = more 8 9 _ jumps h8 (lit≤ tt) (lit≤ tt) refl in
    let h10 = more 9 10 _ loops h9 (lit≤ tt) (lit≤ tt) refl in
    more 10 13 _ delay h10 (lit≤ tt) (lit≤ tt) refl

broken_up : (s : Site) (at : ℕ) (i : Instr) → Rules 13 (broken s at i)
broken_up s at i =
    rules_up (names_exist s i) (result_fits s i) (index_fits s i) (has_options s i) (can_send s i) (jumps_well s.instrs at i) (loops_well s.instrs at i) (delay_fits s i)

-- ---- one part

-- the number of an instruction and the rule; with whether the rule is of the whole part; with the part
abbrev at_instr : BadCode → List ℕ
at_instr bad = bad.instr ∷ bad.rule ∷ []

abbrev in_part : BadCode → List ℕ
in_part bad = whole_number bad.rule ∷ at_instr bad

abbrev in_action : BadCode → List ℕ
in_action bad = part_number bad.part ∷ in_part bad

abbrev in_process : BadCode → List ℕ
in_process bad = bad.action ∷ in_action bad

-- where the breaks of a part stand
record Stands (p a n : ℕ) (bad : BadCode) : Type 0 where
  process : bad.process ≡ p
  action : bad.action ≡ a
  part : part_number bad.part ≡ n
  least : 2 ≤ bad.rule

module _ (s : Site) (a : ℕ) where
  here_stand : (i : ℕ) (rules : List ℕ) → Each (λ r. 2 ≤ r) rules → Each (Stands s.process a (part_number s.part)) (map (λ rule. record { process = s.process; action = a; part = s.part; instr = i; rule = rule }) rules)
  here_stand i [] h = tt
  here_stand i (r ∷ rs) h = (record { process = refl; action = refl; part = refl; least = h.0 }, here_stand i rs h.1)

  instr_stands : (i : ℕ) (instr : Instr) → Each (Stands s.process a (part_number s.part)) (instr_breaks s a i instr)
  instr_stands i instr = here_stand i (broken s i instr) (each_of (λ r. 4 ≤ r) (λ r. 2 ≤ r) (broken s i instr) (λ r l. omega (arith, l)) (broken_up s i instr).least)

  instr_here : (i : ℕ) (instr : Instr) → Each (λ b. b.instr ≡ i) (instr_breaks s a i instr)
  instr_here i instr = each_map _ (λ b. b.instr ≡ i) (broken s i instr) (each_of (λ r. 4 ≤ r) (λ r. i ≡ i) (broken s i instr) (λ r l. refl) (broken_up s i instr).least)

  instr_single : (i : ℕ) (instr : Instr) → Each (λ b. whole_number b.rule ≡ 0) (instr_breaks s a i instr)
  instr_single i instr = each_map _ (λ b. whole_number b.rule ≡ 0) (broken s i instr) (broken_up s i instr).single

  instr_up : (i : ℕ) (instr : Instr) → Up (λ b. b.rule ∷ []) (instr_breaks s a i instr)
  instr_up i instr = up_map _ (λ b. b.rule ∷ []) (broken s i instr) (broken_up s i instr).up

  instr_least : (i : ℕ) (instr : Instr) → Each (λ b. 4 ≤ b.rule) (instr_breaks s a i instr)
  instr_least i instr = each_map _ (λ b. 4 ≤ b.rule) (broken s i instr) (broken_up s i instr).least

  two : (b c : Bool) → Each (λ r. 4 ≤ r) (unless b 11 ++ unless c 12) × Each (λ r. whole_number r ≡ 1) (unless b 11 ++ unless c 12) × Up (λ r. (length s.instrs - 1) ∷ r ∷ []) (unless b 11 ++ unless c 12)
  two true true = (tt, tt, tt)
  two true false = ((lit≤ tt, tt), (refl, tt), (tt, tt))
  two false true = ((lit≤ tt, tt), (refl, tt), (tt, tt))
  two false false = ((lit≤ tt, (lit≤ tt, tt)), (refl, (refl, tt)), ((first_same (length s.instrs - 1) (length s.instrs - 1) (11 ∷ []) (12 ∷ []) refl refl, tt), (tt, tt)))

  wholes : Each (λ r. 4 ≤ r) (whole_rules s.instrs) × Each (λ r. whole_number r ≡ 1) (whole_rules s.instrs) × Up (λ r. (length s.instrs - 1) ∷ r ∷ []) (whole_rules s.instrs)
  wholes = two (nat_le (cost s.instrs) 16000000) (nat_le (sends s.instrs) 64)

  whole_least : Each (λ b. 4 ≤ b.rule) (whole_breaks s a)
  whole_least = each_map _ (λ b. 4 ≤ b.rule) (whole_rules s.instrs) wholes.0

  whole_one : Each (λ b. whole_number b.rule ≡ 1) (whole_breaks s a)
  whole_one = each_map _ (λ b. whole_number b.rule ≡ 1) (whole_rules s.instrs) wholes.1

  whole_up : Up at_instr (whole_breaks s a)
  whole_up = up_map _ at_instr (whole_rules s.instrs) wholes.2

  part_least : Each (λ b. 4 ≤ b.rule) (part_breaks s a)
  part_least = each_both (λ b. 4 ≤ b.rule) (by_number 0 (instr_breaks s a) s.instrs) (whole_breaks s a) (each_number (λ b. 4 ≤ b.rule) (instr_breaks s a) instr_least 0 s.instrs) whole_least

  part_stands : Each (Stands s.process a (part_number s.part)) (part_breaks s a)
  part_stands =
      each_both (Stands s.process a (part_number s.part)) (by_number 0 (instr_breaks s a) s.instrs) (whole_breaks s a) (each_number (Stands s.process a (part_number s.part)) (instr_breaks s a) instr_stands 0 s.instrs)
      (here_stand (length s.instrs - 1) (whole_rules s.instrs) (each_of (λ r. 4 ≤ r) (λ r. 2 ≤ r) (whole_rules s.instrs) (λ r l. omega (arith, l)) wholes.0))

  part_up : Up in_part (part_breaks s a)
  part_up =
      let singles = each_number (λ b. whole_number b.rule ≡ 0) (instr_breaks s a) instr_single 0 s.instrs in
      let behind = each_of (λ b. whole_number b.rule ≡ 1) (λ b. 0 < whole_number b.rule) (whole_breaks s a) (λ b e. omega (arith, e)) whole_one in
      up_both in_part (by_number 0 (instr_breaks s a) s.instrs) (whole_breaks s a) (up_same (λ b. whole_number b.rule) at_instr 0 (by_number 0 (instr_breaks s a) s.instrs) singles (up_number (λ b. b.instr) (λ b. b.rule ∷ []) (instr_breaks s a) instr_here instr_up 0 s.instrs))
      (up_same (λ b. whole_number b.rule) at_instr 1 (whole_breaks s a) whole_one whole_up) (each_cross (λ b. whole_number b.rule) at_instr 0 (by_number 0 (instr_breaks s a) s.instrs) (whole_breaks s a) singles behind)

-- ---- one rule at the beginning of a guard

module _ (p a rule : ℕ) where
  lone_each : (P : BadCode → Type 0) (kept : Bool) → P (record { process = p; action = a; part = part.Guard; instr = 0; rule = rule }) → Each P (where_broken kept p a part.Guard 0 rule)
  lone_each P true h = tt
  lone_each P false h = (h, tt)

  lone_up : (key : BadCode → List ℕ) (kept : Bool) → Up key (where_broken kept p a part.Guard 0 rule)
  lone_up key true = tt
  lone_up key false = (tt, tt)

-- ---- one action

-- what stands at the beginning of a part, and its rule is at most 3
record Begins (bad : BadCode) : Type 0 where
  whole : whole_number bad.rule ≡ 0
  instr : bad.instr ≡ 0
  most : bad.rule ≤ 3

begins_before : (x y : BadCode) → Begins x → x.rule ≤ y.rule → Upto (in_part x) (in_part y)
begins_before x y h l =
    first_upto (whole_number x.rule) (whole_number y.rule) (at_instr x) (at_instr y) (omega (arith, h.whole))
    (first_upto x.instr y.instr (x.rule ∷ []) (y.rule ∷ []) (omega (arith, h.instr)) (first_upto x.rule y.rule [] [] l refl))

each_begins : (xs ys : List BadCode) → Each Begins xs → Each (λ b. 4 ≤ b.rule) ys → Each (λ x. Each (λ y. Upto (in_part x) (in_part y)) ys) xs
each_begins [] ys h k = tt
each_begins (x ∷ xs) ys h k =
    let low = h.0.most in (each_of (λ b. 4 ≤ b.rule) (λ y. Upto (in_part x) (in_part y)) ys (λ y l. begins_before x y h.0 (omega (arith, low, l))) k, each_begins xs ys h.1 k)

abbrev heads : Bool → Bool → ℕ → ℕ → List BadCode
heads b c p a = where_broken b p a part.Guard 0 2 ++ where_broken c p a part.Guard 0 3

module _ (p a : ℕ) (b c : Bool) where
  heads_begin : Each Begins (heads b c p a)
  heads_begin =
      each_both Begins (where_broken b p a part.Guard 0 2) (where_broken c p a part.Guard 0 3) (lone_each p a 2 Begins b (record { whole = refl; instr = refl; most = lit≤ tt }))
      (lone_each p a 3 Begins c (record { whole = refl; instr = refl; most = lit≤ tt }))

  heads_stand : Each (Stands p a 0) (heads b c p a)
  heads_stand =
      each_both (Stands p a 0) (where_broken b p a part.Guard 0 2) (where_broken c p a part.Guard 0 3) (lone_each p a 2 (Stands p a 0) b (record { process = refl; action = refl; part = refl; least = lit≤ tt }))
      (lone_each p a 3 (Stands p a 0) c (record { process = refl; action = refl; part = refl; least = lit≤ tt }))

heads_up : (p a : ℕ) (b c : Bool) → Up in_part (heads b c p a)
heads_up p a true c = lone_up p a 3 in_part c
heads_up p a false true = (tt, tt)
heads_up p a false false = ((refl, tt), (tt, tt))

-- what is told of every break of an action
record IsOf (p a : ℕ) (bad : BadCode) : Type 0 where
  process : bad.process ≡ p
  action : bad.action ≡ a
  least : 2 ≤ bad.rule

is_of : (p a n : ℕ) (bads : List BadCode) → Each (Stands p a n) bads → Each (IsOf p a) bads
is_of p a n bads h = each_of (Stands p a n) (IsOf p a) bads (λ b s. record { process = s.process; action = s.action; least = s.least }) h

module _ (code : Code) (p : ℕ) (process : CodeProcess) (a : ℕ) (action : CodeAction) where
  abbrev first : List BadCode
  first = heads (temporaries_fit action) (guard_fits code p process action) p a

  abbrev guard : List BadCode
  guard = part_breaks (site_of code p process action part.Guard) a

  abbrev body : List BadCode
  body = part_breaks (site_of code p process action part.Body) a

  first_stands : Each (Stands p a 0) (first ++ guard)
  first_stands = each_both (Stands p a 0) first guard (heads_stand p a (temporaries_fit action) (guard_fits code p process action)) (part_stands (site_of code p process action part.Guard) a)

  body_stands : Each (Stands p a 1) body
  body_stands = part_stands (site_of code p process action part.Body) a

  action_stands : Each (IsOf p a) (action_breaks code p process a action)
  action_stands = each_both (IsOf p a) (first ++ guard) body (is_of p a 0 (first ++ guard) first_stands) (is_of p a 1 body body_stands)

  guard_up : Up in_part (first ++ guard)
  guard_up =
      up_both in_part first guard (heads_up p a (temporaries_fit action) (guard_fits code p process action)) (part_up (site_of code p process action part.Guard) a)
      (each_begins first guard (heads_begin p a (temporaries_fit action) (guard_fits code p process action)) (part_least (site_of code p process action part.Guard) a))

  action_up : Up in_action (action_breaks code p process a action)
  action_up =
      let number : BadCode → ℕ = λ b. part_number b.part in
      let in_guard = each_of (Stands p a 0) (λ b. number b ≡ 0) (first ++ guard) (λ b s. s.part) first_stands in
      let in_body = each_of (Stands p a 1) (λ b. number b ≡ 1) body (λ b s. s.part) body_stands in
      let behind = each_of (Stands p a 1) (λ b. 0 < number b) body (λ b s. let n = s.part in omega (arith, n)) body_stands in
      up_both in_action (first ++ guard) body (up_same number in_part 0 (first ++ guard) in_guard guard_up) (up_same number in_part 1 body in_body (part_up (site_of code p process action part.Body) a))
      (each_cross number in_part 0 (first ++ guard) body in_guard behind)

-- ---- one process, and all of them

least_action : (n : ℕ) (bad : BadCode) → n ≤ bad.rule → Upto (0 ∷ 0 ∷ 0 ∷ 0 ∷ n ∷ []) (in_process bad)
least_action n bad l =
    first_upto 0 bad.action (0 ∷ 0 ∷ 0 ∷ n ∷ []) (in_action bad) (omega arith)
    (first_upto 0 (part_number bad.part) (0 ∷ 0 ∷ n ∷ []) (in_part bad) (omega arith)
    (first_upto 0 (whole_number bad.rule) (0 ∷ n ∷ []) (at_instr bad) (omega arith) (first_upto 0 bad.instr (n ∷ []) (bad.rule ∷ []) (omega arith) (first_upto n bad.rule [] [] l refl))))

record IsIn (p : ℕ) (bad : BadCode) : Type 0 where
  process : bad.process ≡ p
  least : 2 ≤ bad.rule

module _ (code : Code) (p : ℕ) (process : CodeProcess) where
  abbrev values : List BadCode
  values = where_broken (values_fit process) p 0 part.Guard 0 2

  abbrev actions : List BadCode
  actions = by_number 0 (action_breaks code p process) process.actions

  actions_in : Each (IsIn p) actions
  actions_in =
      each_number (IsIn p) (action_breaks code p process)
      (λ a action. each_of (IsOf p a) (IsIn p) (action_breaks code p process a action) (λ b h. record { process = h.process; least = h.least }) (action_stands code p process a action)) 0 process.actions

  process_in : Each (IsIn p) (process_breaks code p process)
  process_in = each_both (IsIn p) values actions (lone_each p 0 2 (IsIn p) (values_fit process) (record { process = refl; least = lit≤ tt })) actions_in

  process_up : Up in_process (process_breaks code p process)
  process_up =
      let ascending = up_number (λ b. b.action) in_action (action_breaks code p process)
      (λ a action. each_of (IsOf p a) (λ b. b.action ≡ a) (action_breaks code p process a action) (λ b h. h.action) (action_stands code p process a action)) (action_up code p process) 0 process.actions in
      let behind = each_of (IsIn p) (λ y. Upto (0 ∷ 0 ∷ 0 ∷ 0 ∷ 2 ∷ []) (in_process y)) actions (λ y h. least_action 2 y h.least) actions_in in
      up_both in_process values actions (lone_up p 0 2 in_process (values_fit process)) ascending (lone_each p 0 2 (λ x. Each (λ y. Upto (in_process x) (in_process y)) actions) (values_fit process) behind)

module _ (code : Code) where
  abbrev rest : List BadCode
  rest = by_number 0 (process_breaks code) code.processes

  abbrev all : Bool → Bool → List BadCode
  all b c = where_broken b 0 0 part.Guard 0 1 ++ where_broken c 0 0 part.Guard 0 2

  all_up : (b c : Bool) → Up place_of_break (all b c)
  all_up true c = lone_up 0 0 2 place_of_break c
  all_up false true = (tt, tt)
  all_up false false = ((refl, tt), (tt, tt))

  rest_least : Each (λ b. 2 ≤ b.rule) rest
  rest_least = each_number (λ b. 2 ≤ b.rule) (process_breaks code) (λ p process. each_of (IsIn p) (λ b. 2 ≤ b.rule) (process_breaks code p process) (λ b h. h.least) (process_in code p process)) 0 code.processes

  rest_up : Up place_of_break rest
  rest_up = up_number (λ b. b.process) in_process (process_breaks code) (λ p process. each_of (IsIn p) (λ b. b.process ≡ p) (process_breaks code p process) (λ b h. h.process) (process_in code p process)) (process_up code) 0 code.processes

  behind_all : (n : ℕ) → n ≤ 2 → Each (λ y. Upto (0 ∷ 0 ∷ 0 ∷ 0 ∷ 0 ∷ n ∷ []) (place_of_break y)) rest
  behind_all n l =
      each_of (λ b. 2 ≤ b.rule) (λ y. Upto (0 ∷ 0 ∷ 0 ∷ 0 ∷ 0 ∷ n ∷ []) (place_of_break y)) rest
      (λ y h. first_upto 0 y.process (0 ∷ 0 ∷ 0 ∷ 0 ∷ n ∷ []) (in_process y) (omega arith) (least_action n y (omega (arith, l, h)))) rest_least

  breaks_up : Up place_of_break (breaks code)
  breaks_up =
      up_both place_of_break (all (limits_kept code) (fields_fit code)) rest (all_up (limits_kept code) (fields_fit code)) rest_up
      (each_both (λ x. Each (λ y. Upto (place_of_break x) (place_of_break y)) rest) (where_broken (limits_kept code) 0 0 part.Guard 0 1) (where_broken (fields_fit code) 0 0 part.Guard 0 2)
      (lone_each 0 0 1 (λ x. Each (λ y. Upto (place_of_break x) (place_of_break y)) rest) (limits_kept code) (behind_all 1 (lit≤ tt)))
      (lone_each 0 0 2 (λ x. Each (λ y. Upto (place_of_break x) (place_of_break y)) rest) (fields_fit code) (behind_all 2 (lit≤ tt))))

-- ---- as a sorted list

up_next : {A : Type 0} (key : A → List ℕ) (xs : List A) (k : ℕ) (d : A) → Up key xs → suc k < length xs → is_lt (slice_cmp nat_cmp (key (get_or xs (suc k) d)) (key (get_or xs k d))) ≡ false
up_next key [] k d h l = absurd (omega arith)
up_next key (x ∷ []) k d h l = absurd (omega arith)
up_next key (x ∷ y ∷ ys) zero d h l = h.0.0
up_next key (x ∷ y ∷ ys) (suc k) d h l = up_next key (y ∷ ys) k d h.1 (omega arith)

up_sorted : {A : Type 0} (key : A → List ℕ) (xs : List A) → Up key xs → IsSortedByKey key (slice_cmp nat_cmp) xs
up_sorted key xs h k d l m = rw add-one (up_next key xs k d h (omega arith))

pub breaks_in_order : (code : Code) → IsSortedByKey place_of_break (slice_cmp nat_cmp) (breaks code)
breaks_in_order code = up_sorted place_of_break (breaks code) (breaks_up code)
