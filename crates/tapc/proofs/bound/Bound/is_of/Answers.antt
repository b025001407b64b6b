use Rattle.std.proofs.Common.{◌≡◌, ◌∙◌, ◌&&◌, ℕ, List, Bool, true, false, refl, ap, sym}
use Rattle.std.proofs.lemmas.Bool.Decides.{Decides-eqb}
use Rattle.std.proofs.lemmas.Slice.Eq.{slice_eq-Decides}
use Rattle.link_trait.specs.Link.{Binding}
use Rattle.link_trait.specs.declared.datagram.Address.{Address}
use Rattle.tapc.proofs.bound.Bound.is_of.Goals as goal

-- both of two tests
both : (x y : Bool) → (x && y) ≡ true → (x ≡ true) × (y ≡ true)
both true y h = (refl, h)
both false y h = absurd cc

same_address : (a b : Address) → a.ip ≡ b.ip → a.port ≡ b.port → a ≡ b
same_address a b ip port = ap (λ i. at i a.port) ip ∙ ap (λ p. at b.ip p) port where
  at : List ℕ → ℕ → Address
  at i p = record { ip = i; port = p }

same_binding : (a b : Binding) → a.me ≡ b.me → a.peers ≡ b.peers → a ≡ b
same_binding a b me peers = ap (λ m. of m a.peers) me ∙ ap (λ p. of b.me p) peers where
  of : ℕ → List Address → Binding
  of m p = record { me = m; peers = p }

pub returns-then-self-me : goal.returns-then-self-me
returns-then-self-me c =
    let d = slice_eq-Decides (λ a b.
    let ip = slice_eq-Decides Decides-eqb a.ip b.ip _ refl in
    let port = Decides-eqb a.port b.port in (
      (λ t. let h = both _ _ t in same_address a b (ip.0 h.0) (port.0 h.1)),
      (λ e. let i = ip.1 (ap (λ (z : Address). z.ip) e) in let p = port.1 (ap (λ (z : Address). z.port) e) in rw (i, p) refl),
    )) c.peers.result.now c.args.peers.now c.eq.result c.eq.ensures in (
      (λ t. same_binding c.args.self.now _ (sym (ap (λ (b : Binding). b.me) c.self.view_is) ∙ c.if-self-me.true) (sym c.peers.ensures ∙ d.0 t)),
      (λ e. d.1 (c.peers.ensures ∙ ap (λ (b : Binding). b.peers) e)),
    )
