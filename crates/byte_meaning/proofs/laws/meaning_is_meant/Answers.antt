use Rattle.byte_meaning.proofs.Apart.{spellings_are_read}
use Rattle.byte_meaning.proofs.Meant.{meaning_is_meant}
use Rattle.byte_meaning.proofs.laws.meaning_is_meant.Goals as goal

pub returns-clause-meant : goal.returns-clause-meant
returns-clause-meant c = meaning_is_meant

pub returns-clause-read : goal.returns-clause-read
returns-clause-read c = spellings_are_read
