-- The names of a and b tell lines apart.
use Rattle.std.proofs.Common.{◌≡◌, ◌<◌, ◌^◌, ℕ, List, [], ◌∷◌, length, get_or, refl, ap, sym, subst, arith, codes, lit<}
use Rattle.run_text.specs.Names.{AreFewNames, AreNames}
use Rattle.run_text.specs.declared.names.Names.{Names}
use Rattle.run_text.specs.declared.names.VarName.{VarName}
use Rattle.run_text.proofs.LineLabels.{free_word}
use Rattle.trace_entries.specs.LineNames.{AreLineNames}
use Rattle.line_tests.specs.Sample.{own_vars, process_names}

few_processes : AreFewNames process_names
few_processes = record {
  named = (
    (free_word (codes "a") refl, (free_word (codes "b") refl, tt)),
    (((λ e. let k = ap (λ w. get_or w 0 0) e in omega (arith, k)), tt), (tt, tt)),
  );
  few = lit< tt;
}

few_own : AreFewNames (codes "bit" ∷ codes "held" ∷ [])
few_own = record {
  named = (
    (free_word (codes "bit") refl, (free_word (codes "held") refl, tt)),
    (((λ e. let k = ap (λ w. get_or w 0 0) e in omega (arith, k)), tt), (tt, tt)),
  );
  few = lit< tt;
}

few_none : AreFewNames []
few_none = record { named = (tt, tt); few = lit< tt }

line_names : AreLineNames (record { processes = process_names; vars = own_vars })
line_names = record {
  processes = few_processes;
  both = refl;
  vars = (few_own, (few_none, tt));
}

pub sample_names : (processes : List (List ℕ)) (vars : List (List VarName)) → processes ≡ process_names → vars ≡ own_vars → AreLineNames (record { processes = processes; vars = vars })
sample_names processes vars e h =
    subst (λ ps. AreLineNames (record { processes = ps; vars = vars })) (sym e)
    (subst (λ vs. AreLineNames (record { processes = process_names; vars = vs })) (sym h) line_names)

pub named_sample : (processes : List (List ℕ)) → processes ≡ process_names → AreNames processes
named_sample processes e = subst AreNames (sym e) few_processes.named

pub few_sample : (processes : List (List ℕ)) → processes ≡ process_names → length processes < 2 ^ 32
few_sample processes e = subst (λ ps. length ps < 2 ^ 32) (sym e) few_processes.few
