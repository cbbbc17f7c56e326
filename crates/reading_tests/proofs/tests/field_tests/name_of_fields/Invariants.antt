use Rattle.reading_tests.proofs.tests.field_tests.name_of_fields.Given as goal

abbrev pub ghosts-code_of_fields : goal.ghosts-code_of_fields
ghosts-code_of_fields a = record { name = a.blank.name; parts = a.blank.parts }
