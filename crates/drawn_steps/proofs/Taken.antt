-- An option that a word takes is one of the options, so that a choice of it leads on.
use Rattle.std.proofs.Common.{◌≡◌, ◌+◌, ◌||◌, ℕ, zero, suc, ℤ, Bool, true, false, List, [], ◌∷◌, ◌++◌, length, refl, sym, slice_get, slice_set, Some}
use Rattle.std.specs.List.{list_any}
use Rattle.std.specs.Ordering.{int_eq}
use Rattle.std.proofs.lemmas.Bool.Decides.{Decides-int_eq}
use Rattle.rand_pcg.specs.Lcg.{Lcg}
use Rattle.drawn_choices.specs.Draws.{after_words, drawn, option_drawn, word_from}
use Rattle.code_steps.specs.Holding.{Held}
use Rattle.drawn_steps.specs.Boxes.{Boxed}
use Rattle.drawn_steps.specs.Drawing.{TakesOption}

any_later : (b c : Bool) → c ≡ true → (b || c) ≡ true
any_later true c e = refl
any_later false c e = e

among_at : (xs : List ℤ) (k : ℕ) (x : ℤ) → slice_get xs k ≡ Some x → list_any (int_eq x) xs ≡ true
among_at [] k x e = cc
among_at (y ∷ ys) zero x e = let same : y ≡ x = cc in let is : int_eq x y ≡ true = (Decides-int_eq x y).1 (sym same) in rw is refl
among_at (y ∷ ys) (suc k) x e = any_later (int_eq x y) (list_any (int_eq x) ys) (among_at ys k x e)

abbrev pub noted_with : ℤ → Boxed → Boxed
noted_with x box = record box { chosen = box.chosen ++ x ∷ [] }

abbrev pub put_with : ℕ → ℤ → Held → Held
put_with r x h = record h { next = h.next + 1; registers = slice_set h.registers r x }

pub takes_option : (options : List ℤ) (r : ℕ) (x : ℤ) (before after : Held) (box box_after : Boxed) (g g_after : Lcg) → option_drawn options (word_from g 0) ≡ Some x → g_after ≡ after_words 1 g → box_after ≡ record box { chosen = box.chosen ++ x ∷ [] }
    → after ≡ record before { next = before.next + 1; registers = slice_set before.registers r x } → TakesOption options r before after box box_after g g_after
takes_option options r x before after box box_after g g_after drawn_is moved noted held = record {
  x = x;
  drawn = drawn_is;
  noted = noted;
  moved = moved;
  leads = λ timers sends choices. let among = among_at options (drawn (word_from g 0) (length options)) x drawn_is in rw (among, held) refl;
  held = held;
}
