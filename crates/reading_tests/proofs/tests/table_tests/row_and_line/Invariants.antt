use Rattle.reading_tests.proofs.tests.table_tests.row_and_line.Given as goal

abbrev pub ghosts-row_of_code : goal.ghosts-row_of_code
ghosts-row_of_code a = record { name = a.blank.name; parts = a.blank.parts }
