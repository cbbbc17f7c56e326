-- The rows of the first line, then those of the others.
use Rattle.std.proofs.Common.{◌≡◌, Some, map, ap, sym, arith, append-nil, List, ◌++◌}
use Rattle.row_entries.specs.declared.rows.Line.TheVariants as line
use Rattle.row_entries.specs.Text.{text_front, text_behind}
use Rattle.row_entries.specs.Words.{split}
use Rattle.row_entries.specs.Variants.{lengths}
use Rattle.row_entries.specs.Entries.{names_of}
use Rattle.row_entries.specs.Rows.{view, rows_at_each, entry_line, section_rows}
use Rattle.row_entries.proofs.Lines.{rows_none, rows_idle, rows_begins, rows_entry, before_both}
use Rattle.row_entries.proofs.rows.+add_rows.Goals as goal

pub returns-in-empty : goal.returns-in-empty
returns-in-empty t c = record {
  rows =
      rw (rows_none c.args.kind c.args.at c.args.text.now (omega arith))
      (ap (λ x. Some x) (sym (append-nil (map view c.args.out.now.items))));
}

pub returns-in-Some-Idle : goal.returns-in-Some-Idle
returns-in-Some-Idle t c = record {
  rows =
      let h : entry_line c.args.kind c.args.at (text_front c.args.text.now 10) ≡ Some line.Idle = cc in
      rw (rows_idle c.args.kind c.args.at c.args.text.now (omega arith) h)
      (rw c.behind-rest.ensures.value at c.add_rows.ensures.rows);
}

pub returns-in-Some-Begins : goal.returns-in-Some-Begins
returns-in-Some-Begins t c = record {
  rows =
      let h : entry_line c.args.kind c.args.at (text_front c.args.text.now 10) ≡ Some (line.Begins c.in-Some-Begins.section) = cc in
      rw (rows_begins c.args.kind c.args.at c.in-Some-Begins.section c.args.text.now (omega arith) h)
      (rw c.behind-rest.ensures.value at c.add_rows-in-Some-Begins.ensures.rows);
}

pub returns-in_ok-add_rows_at_each-in-Some-Entry : goal.returns-in_ok-add_rows_at_each-in-Some-Entry
returns-in_ok-add_rows_at_each-in-Some-Entry t c = record {
  rows =
      let h : entry_line c.args.kind c.args.at (text_front c.args.text.now 10) ≡ Some (line.Entry c.in-Some-Entry.e) = cc in
      let m : map view c.add_rows_at_each.new.out.items
      ≡ map view c.args.out.now.items ++ rows_at_each c.args.at.version c.in-Some-Entry.e (lengths c.in-Some-Entry.e) (names_of (text_front c.args.text.now 10))
      = cc (c.in_ok-add_rows_at_each-in-Some-Entry.ensures) in
      rw (rows_entry c.args.kind c.args.at c.in-Some-Entry.e c.args.text.now (omega arith) h)
      (rw (← before_both (map view c.args.out.now.items)
      (rows_at_each c.args.at.version c.in-Some-Entry.e (lengths c.in-Some-Entry.e) (names_of (text_front c.args.text.now 10)))
      (section_rows c.args.kind c.args.at (split (text_behind c.args.text.now 10) 10)))
      (rw (← m)
      (rw c.behind-rest.ensures.value at c.add_rows-in-Some-Entry.ensures.rows)));
}
