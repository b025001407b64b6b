-- A machine of verified code can judge the guards of its process.
use Rattle.std.proofs.Common.{◌≡◌, ◌≤◌, ℕ, Bool, ◌++◌, take, drop, length, ap, sym, subst, ◌∙◌, slice_get, Option, Some, None, arith}
use Rattle.std.proofs.lemmas.List.{length-append, length-take, take-append-drop}
use Rattle.tap_base.specs.Ranges.{AreAllIn}
use Rattle.register_code.specs.declared.code.Code.{Code}
use Rattle.register_code.specs.declared.code.CodeAction.{CodeAction}
use Rattle.register_code.specs.declared.code.CodeKind.TheVariants as kind
use Rattle.register_code.specs.declared.code.CodeProcess.{CodeProcess}
use Rattle.register_code.specs.Registers.{cell_ranges, input_ranges}
use Rattle.register_code.specs.Verified.{IsVerified}
use Rattle.code_steps.specs.Holding.{Held}
use Rattle.code_steps.specs.Guarding.{StartsGuard, TellsGuard}
use Rattle.action_machine.specs.Machines.{HasAction, HasGuard, HasRoom, IsMachineOf, Placed, guard_of}

-- two that are found at one place are one
pub one_found : {A : Type 0} (o : Option A) (x y : A) → o ≡ Some x → o ≡ Some y → x ≡ y
one_found {A} o x y e f = ap (λ (p : Option A). found p) both where
  found : Option A → A
  found None = x
  found (Some z) = z

  both : ◌≡◌ {A = Option A} (Some x) (Some y)
  both = sym e ∙ f

-- what the machine holds, with its first registers
pub record Holds (m : Placed) (keep : ℕ) (h : Held) : Type 0 where
  pub first : take keep h.registers ≡ m.cells ++ m.inputs
  pub inside : keep ≤ length h.registers
  pub registers_room : m.registers_room ≡ h.registers_room
  pub counters_room : m.counters_room ≡ h.counters_room

pub holds : (m : Placed) (cells keep process : ℕ) (h : Held) → keep ≤ length h.registers
    → m ≡ record { process = process; cells = take cells (take keep h.registers); inputs = drop cells (take keep h.registers); registers_room = h.registers_room; counters_room = h.counters_room } → Holds m keep h
holds m cells keep process h inside is = record {
  first = sym (take-append-drop cells (take keep h.registers)) ∙ ap (λ (p : Placed). p.cells ++ p.inputs) (sym is);
  inside = inside;
  registers_room = ap (λ (p : Placed). p.registers_room) is;
  counters_room = ap (λ (p : Placed). p.counters_room) is;
}

pub starts_guard : (code : Code) (m : Placed) (n keep : ℕ) (h : Held) → IsVerified code → IsMachineOf code m → (a : HasAction code m.process n) → a.action.kind ≡ kind.Local → Holds m keep h → StartsGuard a.action keep h
starts_guard code m n keep h verified machine a local held =
    let same : machine.process ≡ a.of_process = one_found (slice_get code.processes m.process) machine.process a.of_process machine.there a.there in
    let room : HasRoom m a.action = machine.room n a.action (subst (λ (p : CodeProcess). slice_get p.actions n ≡ Some a.action) (sym same) a.declared) in
    record {
      code = code;
      number = m.process;
      process = a.of_process;
      verified = record { verified = verified; there = a.there; number = n; declared = a.declared };
      local = local;
      cells = m.cells;
      inputs = m.inputs;
      cells_fit = subst (λ (p : CodeProcess). AreAllIn (cell_ranges p) m.cells) same machine.cells;
      inputs_fit = subst (λ (p : CodeProcess). AreAllIn (input_ranges p) m.inputs) same machine.inputs;
      first = held.first;
      inside = held.inside;
      registers = omega (arith, ap length held.first, length-take keep h.registers, length-append m.cells m.inputs, held.inside, held.registers_room, room.registers);
      counters = omega (arith, held.counters_room, room.guard);
    }

pub same_action : (code : Code) (p n : ℕ) (a b : HasAction code p n) → a.action ≡ b.action
same_action code p n a b =
    let process = one_found (slice_get code.processes p) a.of_process b.of_process a.there b.there in
    one_found (slice_get b.of_process.actions n) a.action b.action (subst (λ (q : CodeProcess). slice_get q.actions n ≡ Some a.action) process a.declared) b.declared

-- an action that is found by number
abbrev pub found : (code shown : Code) (m : Placed) (p n : ℕ) (process : CodeProcess) (action : CodeAction) → shown ≡ code → p ≡ m.process → slice_get shown.processes p ≡ Some process → slice_get process.actions n ≡ Some action → HasAction code m.process n
found code shown m p n process action e f there declared =
    record { of_process = process; there = subst (λ (q : ℕ). slice_get code.processes q ≡ Some process) f (subst (λ (c : Code). slice_get c.processes p ≡ Some process) e there); action = action; declared = declared }

pub starts_found : (code : Code) (m : Placed) (n keep : ℕ) (h : Held) → IsVerified code → IsMachineOf code m → HasGuard code m.process n → (a : HasAction code m.process n) → Holds m keep h → StartsGuard a.action keep h
starts_found code m n keep h verified machine g a held =
    starts_guard code m n keep h verified machine a (subst (λ (x : CodeAction). x.kind ≡ kind.Local) (same_action code m.process n g.action a) g.local) held

pub tells_found : (code : Code) (m : Placed) (n keep : ℕ) (h : Held) (result : Bool) → IsVerified code → IsMachineOf code m → HasGuard code m.process n → (a b : HasAction code m.process n) → Holds m keep h → TellsGuard a.action keep h result
    → result ≡ guard_of code m n b
unfolding starts_found starts_guard
tells_found code m n keep h result verified machine g a b held tells =
    subst (λ (x : CodeAction). TellsGuard x keep h result) (same_action code m.process n a b) tells (starts_found code m n keep h verified machine g b held)
