use Rattle.std.proofs.Common.{codes}
use Rattle.rehearsal.specs.Requests.{closing_line, field_lines, length_line}
use Rattle.rehearsal.proofs.Ranges.{onto}
use Rattle.rehearsal.proofs.requests.push_field_lines.Goals as goal

pub returns : goal.returns
unfolding field_lines
returns c =
    onto c.args.text.now.items c.extend_from_slice.new.self.items c.push_length_line.new.text.items
    c.push_closing_line.new.text.items (codes "Host: rehearsal\r\n")
    (length_line c.args.connection c.args.number)
    (closing_line c.args.connection c.args.number) c.in_ok-extend_from_slice.ensures.items
    c.in_ok-push_length_line.ensures c.in_ok-push_closing_line.ensures
