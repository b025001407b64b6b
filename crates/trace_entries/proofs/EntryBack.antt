-- The entry of words is found again.
use Rattle.std.proofs.Common.{◌≡◌, ◌<◌, ◌^◌, ℕ, zero, suc, ℤ, List, [], ◌∷◌, length, map, drop, get_or, slice_get, unwrap_or, refl, ap, sym, subst, ◌∙◌, arith, codes, lit<}
use Rattle.std.specs.Prelude.{IsSomeAnd}
use Rattle.std.specs.Fmt.{decimal}
use Rattle.tap_base.specs.Lists.{Each}
use Rattle.abstract_run.specs.declared.label.Label.TheVariants as label
use Rattle.run_text.specs.Names.{AreFewNames}
use Rattle.run_text.specs.declared.names.Names.{Names}
use Rattle.run_text.specs.declared.names.VarName.{VarName}
use Rattle.run_text.proofs.LineLabels.{all_found, all_valued, counted, found, hex_back, integer, number, place, short, unhex}
use Rattle.trace_entries.specs.Entries.{AreEntryWords, HasEntryLine, entry_words}
use Rattle.trace_entries.specs.LineNames.{AreLineNames, var_names, vars_at}
use Rattle.trace_entries.specs.declared.entry.Entry.{Entry}
use Rattle.trace_entries.specs.declared.entry.Entry.TheVariants as entry

-- ---- the variables of a process

few_at : (vars : List (List VarName)) (p : ℕ) → Each (λ own. AreFewNames (var_names own)) vars → AreFewNames (var_names (unwrap_or (slice_get vars p) []))
few_at [] zero h = record { named = (tt, tt); few = lit< tt }
few_at [] (suc p) h = record { named = (tt, tt); few = lit< tt }
few_at (v ∷ vs) zero h = h.0
few_at (v ∷ vs) (suc p) h = few_at vs p h.1

pub few_vars : (names : Names) (p : ℕ) → AreLineNames names → AreFewNames (var_names (vars_at names p))
few_vars names p d = few_at names.vars p d.vars

-- a variable that is there is one of so many
pub inside : (P : VarName → Type 0) (vars : List VarName) (x : ℕ) → IsSomeAnd (slice_get vars x) P → x < length (var_names vars)
inside P [] zero h = absurd h
inside P [] (suc x) h = absurd h
inside P (v ∷ vs) zero h = omega arith
inside P (v ∷ vs) (suc x) h = let k = inside P vs x h in omega (arith, k)

-- ---- entries

abbrev tags : List (List ℕ)
tags =
    codes "tick" ∷ codes "reject" ∷ codes "act" ∷ codes "idle" ∷ codes "flood" ∷ codes "arrive" ∷ codes "lose" ∷ codes "copy" ∷ codes "move" ∷ codes "damage" ∷ codes "forge" ∷ codes "cut" ∷ codes "stop" ∷ codes "down" ∷ codes "void" ∷ codes "sent" ∷ codes "got" ∷ codes "strangers" ∷ codes "var" ∷ codes "end" ∷ []

-- how each kind of entry is read from its words
abbrev readers : Names → List (List (List ℕ) → Entry)
readers names =
    (λ ws. entry.Label (label.Tick (place names.processes (get_or ws 0 [])) (number (get_or ws 1 []))))
    ∷ (λ ws. entry.Label (label.Reject (place names.processes (get_or ws 0 [])) (place names.processes (get_or ws 1 [])) (number (get_or ws 2 []))))
    ∷ (λ ws. entry.Label (label.Act (place names.processes (get_or ws 0 [])) (number (get_or ws 1 [])) (map integer (drop 2 ws))))
    ∷ (λ ws. entry.Label (label.Idle (place names.processes (get_or ws 0 []))))
    ∷ (λ ws. entry.Label (label.Flood (place names.processes (get_or ws 0 []))))
    ∷ (λ ws. entry.Label (label.Arrive (place names.processes (get_or ws 0 [])) (place names.processes (get_or ws 1 []))))
    ∷ (λ ws. entry.Label (label.Lose (place names.processes (get_or ws 0 [])) (place names.processes (get_or ws 1 [])) (number (get_or ws 2 []))))
    ∷ (λ ws. entry.Label (label.Copy (place names.processes (get_or ws 0 [])) (place names.processes (get_or ws 1 [])) (number (get_or ws 2 []))))
    ∷ (λ ws. entry.Label (label.Move (place names.processes (get_or ws 0 [])) (place names.processes (get_or ws 1 [])) (number (get_or ws 2 [])) (number (get_or ws 3 []))))
    ∷ (λ ws. entry.Label (label.Damage (place names.processes (get_or ws 0 [])) (place names.processes (get_or ws 1 [])) (number (get_or ws 2 [])) (unhex (get_or ws 3 []))))
    ∷ (λ ws. entry.Label (label.Forge (place names.processes (get_or ws 0 [])) (place names.processes (get_or ws 1 [])) (unhex (get_or ws 2 []))))
    ∷ (λ ws. entry.Label (label.Cut (place names.processes (get_or ws 0 [])) (number (get_or ws 1 []))))
    ∷ (λ ws. entry.Label (label.Stop (place names.processes (get_or ws 0 [])) (map (place names.processes) (drop 1 ws))))
    ∷ (λ ws. entry.Label (label.Down (place names.processes (get_or ws 0 []))))
    ∷ (λ ws. entry.Label label.Void)
    ∷ (λ ws. entry.Sent (place names.processes (get_or ws 0 [])) (unhex (get_or ws 1 [])))
    ∷ (λ ws. entry.Got (place names.processes (get_or ws 0 [])) (place names.processes (get_or ws 1 [])) (unhex (get_or ws 2 [])))
    ∷ (λ ws. entry.Strangers (number (get_or ws 0 [])))
    ∷ (λ ws. entry.Var (place names.processes (get_or ws 0 [])) (place (var_names (vars_at names (place names.processes (get_or ws 0 [])))) (get_or ws 1 [])) (map integer (drop 2 ws)))
    ∷ (λ ws. entry.End)
    ∷ []

-- the only entry that words can be of
abbrev pub entry_from : Names → List (List ℕ) → Entry
entry_from names [] = entry.End
entry_from names (k ∷ ws) = get_or (readers names) (place tags k) (λ ws. entry.End) ws

pub entry_back : (names : Names) (x : Entry) → AreLineNames names → HasEntryLine names x → entry_from names (entry_words names x) ≡ x
entry_back names (entry.Label (label.Tick p c)) d h = let ea = found names.processes p d.processes.named.1 h.0 in let eb = counted c h.1 in rw (ea, eb) refl
entry_back names (entry.Label (label.Reject q p i)) d h = let ea = found names.processes q d.processes.named.1 h.0 in let eb = found names.processes p d.processes.named.1 h.1 in let ec = short i h.2 in rw (ea, eb, ec) refl
entry_back names (entry.Label (label.Act p i zs)) d h = let ea = found names.processes p d.processes.named.1 h.0 in let eb = short i h.1 in let ec = all_valued zs h.2 in rw (ea, eb, ec) refl
entry_back names (entry.Label (label.Idle p)) d h = let ea = found names.processes p d.processes.named.1 h in rw ea refl
entry_back names (entry.Label (label.Flood p)) d h = let ea = found names.processes p d.processes.named.1 h in rw ea refl
entry_back names (entry.Label (label.Arrive q p)) d h = let ea = found names.processes q d.processes.named.1 h.0 in let eb = found names.processes p d.processes.named.1 h.1 in rw (ea, eb) refl
entry_back names (entry.Label (label.Lose q p i)) d h = let ea = found names.processes q d.processes.named.1 h.0.0 in let eb = found names.processes p d.processes.named.1 h.0.1 in let ec = short i h.1 in rw (ea, eb, ec) refl
entry_back names (entry.Label (label.Copy q p i)) d h = let ea = found names.processes q d.processes.named.1 h.0.0 in let eb = found names.processes p d.processes.named.1 h.0.1 in let ec = short i h.1 in rw (ea, eb, ec) refl
entry_back names (entry.Label (label.Move q p i j)) d h = let ea = found names.processes q d.processes.named.1 h.0.0 in let eb = found names.processes p d.processes.named.1 h.0.1 in let ec = short i h.1 in let ed = short j h.2 in rw (ea, eb, ec, ed) refl
entry_back names (entry.Label (label.Damage q p i bs)) d h = let ea = found names.processes q d.processes.named.1 h.0.0 in let eb = found names.processes p d.processes.named.1 h.0.1 in let ec = short i h.1 in let ed = hex_back bs h.2.1 in rw (ea, eb, ec, ed) refl
entry_back names (entry.Label (label.Forge q p bs)) d h = let ea = found names.processes q d.processes.named.1 h.0.0 in let eb = found names.processes p d.processes.named.1 h.0.1 in let ec = hex_back bs h.1.1 in rw (ea, eb, ec) refl
entry_back names (entry.Label (label.Cut p n)) d h = let ea = found names.processes p d.processes.named.1 h.0 in let eb = short n h.1 in rw (ea, eb) refl
entry_back names (entry.Label (label.Stop p qs)) d h = let ea = found names.processes p d.processes.named.1 h.0 in let eb = all_found names.processes qs d.processes.named.1 h.1 in rw (ea, eb) refl
entry_back names (entry.Label (label.Down p)) d h = let ea = found names.processes p d.processes.named.1 h in rw ea refl
entry_back names (entry.Label label.Void) d h = refl
entry_back names (entry.Sent p bs) d h = let ea = found names.processes p d.processes.named.1 h.0 in let eb = hex_back bs h.1 in rw (ea, eb) refl
entry_back names (entry.Got q p bs) d h = let ea = found names.processes q d.processes.named.1 h.0 in let eb = found names.processes p d.processes.named.1 h.1 in let ec = hex_back bs h.2.1 in rw (ea, eb, ec) refl
entry_back names (entry.Strangers n) d h = let ea = counted n h in rw ea refl
entry_back names (entry.Var p x zs) d h = let ea = found names.processes p d.processes.named.1 h.0 in let eb = found (var_names (vars_at names p)) x (few_vars names p d).named.1 (inside _ (vars_at names p) x h.1) in let ec = all_valued zs h.2 in rw (ea, eb, ec) refl
entry_back names entry.End d h = refl

-- what words of some entry say, they say of that entry
pub of_words : (names : Names) (words : List (List ℕ)) (x : Entry) → AreLineNames names → AreEntryWords names words x → AreEntryWords names words (entry_from names words)
of_words names words x d h = subst (AreEntryWords names words) (sym (ap (entry_from names) h.1 ∙ entry_back names x d h.0)) h

pub one_entry : (names : Names) (words : List (List ℕ)) (x y : Entry) → AreLineNames names → AreEntryWords names words x → AreEntryWords names words y → x ≡ y
one_entry names words x y d h k = sym (entry_back names x d h.0) ∙ ap (entry_from names) (sym h.1 ∙ k.1) ∙ entry_back names y d k.0
