-- The first offence of a system whose messages can't be laid out, by why they can't.
use Rattle.std.proofs.Common.{◌≡◌, ◌<◌, ℕ, List, get_or, sym, ap, subst, ◌∙◌, slice_get, Some, Ok, Err, Result, IfOk}
use Rattle.std.proofs.lemmas.List.{length-map}
use Rattle.std.proofs.lemmas.Option.{slice_get-get_or, slice_get_within}
use Rattle.tap_base.specs.declared.memory.NoMemory.{NoMemory}
use Rattle.tap_base.specs.declared.refusal.RefusalCode.TheVariants as code
use Rattle.tap_base.specs.declared.system.Message.{Message}
use Rattle.tap_base.specs.declared.system.System.{System}
use Rattle.tap_base.specs.declared.wire.WireField.{WireField}
use Rattle.tap_base.specs.Wires.{wire_message, wire_of}
use Rattle.tap_expr.specs.ExprText.{refusal}
use Rattle.message_layout.specs.declared.fault.LayoutFault.TheVariants as fault
use Rattle.message_layout.specs.Faults.{IsFault}
use Rattle.tap_front.specs.Layouts.{Mislays, alike, long}
use Rattle.tap_front.specs.declared.offence.Offence.{Offence}
use Rattle.tap_front.specs.declared.offence.Offence.TheVariants.{Alike, Coded}

-- the message of a system by its number, where its wire has one
there : (system : System) (messages : List Message) (m : ℕ) (d : Message) (fields : List WireField) → messages ≡ system.messages → slice_get (wire_of system).messages m ≡ Some fields
    → slice_get system.messages m ≡ Some (get_or messages m d)
there system messages m d fields own h =
    let within = subst (λ n. m < n) (length-map system.messages wire_message) (slice_get_within (wire_of system).messages m fields h) in
    slice_get-get_or system.messages m d within ∙ ap (λ ms. Some (get_or ms m d)) (sym own)

pub long_found : (system : System) (messages : List Message) (m : ℕ) (d : Message) → messages ≡ system.messages → IsFault (wire_of system) (fault.TooLong m)
    → Mislays system (Coded (refusal code.M1 (get_or messages m d).place))
long_found system messages m d own h = long h (there system messages m d h.fields own h.there)

pub alike_found : (system : System) (messages : List Message) (m n : ℕ) (d e one other : Message) → messages ≡ system.messages → IsFault (wire_of system) (fault.NotApart m n)
    → one ≡ get_or messages m d → other ≡ get_or messages n e → (r : Result Offence NoMemory) → IfOk r (λ o. o ≡ Alike other.place one.name other.name) → IfOk r (λ o. Mislays system o)
alike_found system messages m n d e one other own h one_is other_is (Ok o) made =
    let clash = h.1.clash in
    subst (Mislays system) (sym made) (alike h.0 h.1 (there system messages m d clash.one own clash.one_there ∙ ap Some (sym one_is)) (there system messages n e clash.other own clash.other_there ∙ ap Some (sym other_is)))
alike_found system messages m n d e one other own h one_is other_is (Err k) made = tt
