use Rattle.std.proofs.Common.{◌≡◌, ℕ, ap, sym, ◌∙◌, Some, None, Option, slice_get, length, List}
use Rattle.std.specs.Option.{option_copied}
use Rattle.tap_base.specs.Option.{◌>>=◌}
use Rattle.abstract_run.specs.declared.state.Channel.{Channel}
use Rattle.abstract_run.specs.declared.state.State.{State}
use Rattle.abstract_run.specs.Channels.{channel_of, channels_among, place_of}
use Rattle.abstract_run.specs.inner.Among.{HasChannels}
use Rattle.abstract_run.proofs.Stands.{stands_same}
use Rattle.world_run.proofs.rejects.channel_between.Goals as goal

-- the channel stands where its place among all says
channel_at : (s : State) (q p n : ℕ) (o : Option ℕ) → HasChannels s → n ≡ length s.down → o ≡ place_of q p (channels_among n) → channel_of q p s.channels ≡ (o >>= λ k. slice_get s.channels k)
channel_at s q p n o among same is =
    ap (λ (x : Option ℕ). x >>= λ k. slice_get s.channels k) (stands_same (length s.down) q p s.channels among ∙ ap (λ k. place_of q p (channels_among k)) (sym same) ∙ sym is)

pub returns-in_err-at : goal.returns-in_err-at
returns-in_err-at c =
    ap option_copied c.from_residual.ensures ∙ sym (channel_at c.args.state.now c.args.from c.args.to c.len.result None c.requires c.len.ensures c.in_err-at.ensures)

pub returns : goal.returns
returns c =
    c.item.ensures ∙ ap (λ (cs : List Channel). slice_get cs c.in_ok-at.at) c.as_slice.ensures
    ∙ sym (channel_at c.args.state.now c.args.from c.args.to c.len.result (Some c.in_ok-at.at) c.requires c.len.ensures c.in_ok-at.ensures)
