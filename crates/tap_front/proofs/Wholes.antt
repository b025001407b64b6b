-- What the tree of a text resolves to is whole.
use Rattle.std.proofs.Common.{ℕ, List}
use Rattle.tap_base.specs.declared.ast.Ast.{Ast}
use Rattle.tap_types.proofs.whole.WholeTrees.{resolves_whole}
use Rattle.tap_types.specs.Given.{HasParts}
use Rattle.tap_front.proofs.given.GivenTrees.{texts_have_parts}
use Rattle.tap_front.specs.Accepting.{IsReadAs}
use Rattle.tap_front.specs.Laws.{ResolvedIsWhole}

pub read_has_parts : (text : List ℕ) (tree : Ast) → IsReadAs text tree → HasParts tree
read_has_parts text tree h = texts_have_parts text h.tokens tree h.lexed h.parsed

pub resolved_is_whole : ResolvedIsWhole
resolved_is_whole text tree system read h = resolves_whole tree system (read_has_parts text tree read) h.faultless h.named
