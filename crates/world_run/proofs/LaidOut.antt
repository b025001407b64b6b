-- Nothing keeps a wire that can be laid out from its layout.
use Rattle.std.proofs.Common.{◌≡◌, ℕ, sym, subst}
use Rattle.tap_base.specs.declared.wire.Wire.{Wire}
use Rattle.byte_meaning.specs.Apart.{TellsApart}
use Rattle.byte_meaning.specs.Meaning.{HasReceive}
use Rattle.message_layout.specs.Clashes.{IsFirstClash}

-- no messages clash that are told apart
pub no_clash : (wire other : Wire) (m n : ℕ) → wire ≡ other → TellsApart other.messages (HasReceive other) → IsFirstClash wire m n → ⊥
no_clash wire other m n same apart first =
    let c = first.clash in
    c.alike (subst (λ (w : Wire). TellsApart w.messages (HasReceive w)) (sym same) apart first.receiver first.peer m n c.one c.other c.one_received c.other_received c.later c.one_there c.other_there)
