-- The names in a system that a text is accepted as.
use Rattle.std.proofs.Common.{List, ℕ, [], ◌∷◌, map, sym, subst}
use Rattle.tap_base.specs.declared.ast.Ast.{Ast}
use Rattle.tap_base.specs.declared.ast.AstProcess.{AstProcess}
use Rattle.tap_base.specs.declared.system.System.{System}
use Rattle.tap_base.specs.Lists.{Each}
use Rattle.tap_base.specs.LineWords.{IsWord}
use Rattle.tap_base.proofs.DistinctFacts.{distinct_behind}
use Rattle.tap_names.specs.Declarations.{process_names}
use Rattle.tap_types.proofs.KeptNames.{kept}
use Rattle.tap_front.specs.Accepting.{IsReadAs, ResolvesTo, TellsApart}
use Rattle.tap_front.specs.Laws.{NamesTellApart}
use Rattle.tap_front.proofs.NamesAreWords.{names_are_words}
use Rattle.tap_front.proofs.Wholes.{resolved_is_whole}

each_name : (ps : List AstProcess) → Each (λ p. IsWord p.name.text) ps → Each IsWord (process_names ps)
each_name [] h = tt
each_name (p ∷ ps) h = (h.0, each_name ps h.1)

pub named : (text : List ℕ) (tree : Ast) (system : System) → IsReadAs text tree → ResolvesTo tree system → TellsApart system
named text tree system read resolved =
    let words = each_name tree.processes (names_are_words text tree read) in
    (subst (Each IsWord) (sym (kept tree system resolved.named).1) words, distinct_behind (map (λ m. m.name) system.messages) (map (λ p. p.name) system.processes) (resolved_is_whole text tree system read resolved).distinct.together)

pub names_tell_apart : NamesTellApart
names_tell_apart text system h = named text h.tree system h.read h.resolved
