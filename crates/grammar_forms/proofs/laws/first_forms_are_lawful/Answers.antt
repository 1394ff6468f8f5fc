use Rattle.grammar_forms.proofs.FormLaws.{gives_lawful, any_byte_lawful, unsigned_lawful, signed_lawful}
use Rattle.grammar_forms.proofs.laws.first_forms_are_lawful.Goals as goal

pub returns-clause-of_none : goal.returns-clause-of_none
returns-clause-of_none g c n x = gives_lawful n x

pub returns-clause-of_bytes : goal.returns-clause-of_bytes
returns-clause-of_bytes g c n = any_byte_lawful n

pub returns-clause-of_unsigned : goal.returns-clause-of_unsigned
returns-clause-of_unsigned g c n width leb = unsigned_lawful n leb width

pub returns-clause-of_signed : goal.returns-clause-of_signed
returns-clause-of_signed g c n width leb = signed_lawful n leb width
