-- What an instruction that chooses does.
use Rattle.std.specs.Prelude.{◌≡◌, ℕ, ◌+◌, ℤ, pos, List, [], ◌∷◌, ◌++◌, map, slice_set, Some}
use Rattle.tap_exec.specs.declared.running.Outgoing.{Outgoing}
use Rattle.tap_exec.specs.declared.running.TimerState.{TimerState}
use Rattle.rand_pcg.specs.Lcg.{Lcg}
use Rattle.register_code.specs.Instructions.{chooses}
use Rattle.drawn_choices.specs.Draws.{after_words, option_drawn, word_from}
use Rattle.code_steps.specs.Holding.{Held, moment}
use Rattle.drawn_steps.specs.Boxes.{Boxed}

-- The next word takes one of the options. It is noted, and a choice of it leads on.
pub record TakesOption (options : List ℤ) (register : ℕ) (before after : Held) (box box_after : Boxed) (g g_after : Lcg) : Type 0 where
  pub x : ℤ
  pub drawn : option_drawn options (word_from g 0) ≡ Some x
  pub noted : box_after ≡ record box { chosen = box.chosen ++ x ∷ [] }
  pub moved : g_after ≡ after_words 1 g
  pub leads : (timers : List TimerState) (sends : List Outgoing) (choices : List ℤ) → chooses register options (moment before timers sends (x ∷ choices)) ≡ Some (moment after timers sends choices)
  pub held : after ≡ record before { next = before.next + 1; registers = slice_set before.registers register x }

-- No word is used, and the register holds a number.
pub record TakesNone (x : ℤ) (register : ℕ) (before after : Held) (box box_after : Boxed) (g g_after : Lcg) : Type 0 where
  pub held : after ≡ record before { next = before.next + 1; registers = slice_set before.registers register x }
  pub noted : box_after ≡ box
  pub moved : g_after ≡ g

-- By the offsets of the registers that hold 1: of none the count, of one its offset, of more what the next word takes.
abbrev pub Selects : ℕ → ℕ → List ℕ → Held → Held → Boxed → Boxed → Lcg → Lcg → Type 0
Selects r count [] before after box box_after g g_after = TakesNone (pos count) r before after box box_after g g_after
Selects r count (k ∷ []) before after box box_after g g_after = TakesNone (pos k) r before after box box_after g g_after
Selects r count (k ∷ l ∷ more) before after box box_after g g_after = TakesOption (map pos (k ∷ l ∷ more)) r before after box box_after g g_after
