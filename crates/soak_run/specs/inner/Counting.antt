-- How a tally goes on.
use Rattle.std.specs.Prelude.{ℕ, ◌+◌, ◌<◌, ◌^◌, List, length, filter}
use Rattle.abstract_run.specs.declared.label.Label.{Label}
use Rattle.soak_run.specs.Counted.{is_act, is_idle, is_reject, is_void}
use Rattle.soak_run.specs.declared.tally.Tally.{Tally}

abbrev pub nothing : Tally
nothing = record { acts = 0; sents = 0; rejects = 0; idles = 0; voids = 0 }

-- the tally with labels and so many datagrams more
abbrev pub counted : Tally → List Label → ℕ → Tally
counted t labels sents = record {
  acts = t.acts + length (filter is_act labels);
  sents = t.sents + sents;
  rejects = t.rejects + length (filter is_reject labels);
  idles = t.idles + length (filter is_idle labels);
  voids = t.voids + length (filter is_void labels);
}

-- 64 bits have room for so many labels more, whatever their kinds, and so many datagrams.
pub record HasRoom (t : Tally) (labels out : ℕ) : Type 0 where
  pub acts : t.acts + labels < 2 ^ 64
  pub sents : t.sents + out < 2 ^ 64
  pub rejects : t.rejects + labels < 2 ^ 64
  pub idles : t.idles + labels < 2 ^ 64
  pub voids : t.voids + labels < 2 ^ 64
