-- What a file and settings give, where its text is told.
use Rattle.std.proofs.Common.{◌≡◌, ℕ, List, [], Option, Some, None, IfSome, refl, subst, sym, ◌∙◌}
use Rattle.tap_base.specs.declared.system.Inputs.{Inputs}
use Rattle.tap_base.specs.declared.system.System.{System}
use Rattle.tap_exec.specs.Semantics.{Semantics, semantics_of}
use Rattle.tap_front.specs.Accepting.{Accepted}
use Rattle.tap_settings.specs.GivenInputs.{inputs_given}
use Rattle.tap_settings.specs.SettingText.{Assignment}
use Rattle.tapc_core.specs.Reading.{ReadsWhole}
use Rattle.tapc_core.specs.Run.{FileGives, Gives, HoldsSystem, SetsUp}

pub if_some : {A : Type 0} (o : Option A) (P Q : A → Type 0) → ((x : A) → P x → Q x) → IfSome o P → IfSome o Q
if_some None P Q f h = tt
if_some (Some x) P Q f h = f x h

-- a text that is told gives it
pub where_told : (o : Option (List ℕ)) (settings : List Assignment) (m : Semantics) (inputs : Inputs) → FileGives o settings m inputs → IfSome o (λ text. Gives text settings m inputs)
where_told o settings m inputs h =
    let P : List ℕ → Type 0 = λ text. Gives text settings m inputs in
    if_some o (λ t. t ≡ h.text) P (λ t e. subst P (sym e) h.gives) h.text_is

-- a text that is told is the one that can be run
pub held_told : (o : Option (List ℕ)) (system : System) → HoldsSystem o system → IfSome o (λ text. Accepted text system)
held_told o system h =
    let P : List ℕ → Type 0 = λ text. Accepted text system in
    if_some o (λ t. t ≡ h.text) P (λ t e. subst P (sym e) h.runs) h.text_is

-- with the inputs that settings give its system, a file gives what the system says
pub file_gives : (o : Option (List ℕ)) (settings : List Assignment) (system : System) (inputs : Inputs) → HoldsSystem o system → inputs_given system settings ≡ Some inputs
    → FileGives o settings (semantics_of system) inputs
file_gives o settings system inputs h given = record { text = h.text; text_is = h.text_is; gives = record { system = system; runs = h.runs; says = refl; given = given } }

pub set_up_gives : {o : Option (List ℕ)} {settings : List Assignment} {system : System} {inputs : Inputs} → SetsUp o settings system inputs → FileGives o settings (semantics_of system) inputs
set_up_gives {o = o} {settings = settings} {system = system} {inputs = inputs} h = file_gives o settings system inputs h.holds h.given

-- what was read whole is what the name holds
pub whole_is : (o p : Option (List ℕ)) (bytes slice : List ℕ) (left : Option (List ℕ)) → o ≡ p → slice ≡ bytes → ReadsWhole o bytes left → IfSome p (λ t. slice ≡ t)
whole_is o p bytes slice left same is h =
    if_some p (λ t. (bytes ≡ t) × (left ≡ Some [])) (λ t. slice ≡ t) (λ t k. is ∙ k.0) (subst (λ x. ReadsWhole x bytes left) same h)
