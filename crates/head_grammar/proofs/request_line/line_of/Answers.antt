-- The parts stand one behind the other, each where it ends.
use Rattle.std.proofs.Common.{◌++◌, ap, ◌∙◌, rules}
use Rattle.percent_encoding.specs.Percent.{percent_decode}
use Rattle.head_grammar.specs.Targets.{path_of, query_of, rooted}
use Rattle.head_grammar.proofs.LineParts.{line_is}
use Rattle.head_grammar.proofs.request_line.line_of.Goals as goal

pub returns : goal.returns
unfolding path_of
returns c =
    line_is c.args.version c.args.method.now c.args.target.now (path_of c.args.target.now)
    (query_of c.args.target.now) c.extend_from_slice.new.self.items
    c.extend_from_slice-2.new.self.items c.push_path.new.text.items
    c.extend_from_slice-3.new.self.items
    c.len-method_end.result c.len-target_end.result c.len-path_end.result
    (c.in_ok-extend_from_slice.ensures.items ∙ ap (λ t. t ++ c.args.method.now)
    c.in_ok-text.ensures.items)
    c.in_ok-extend_from_slice-2.ensures.items
    (c.in_ok-push_path.ensures ∙ ap
    (λ raw. c.extend_from_slice-2.new.self.items ++ rooted (percent_decode raw))
    c.cut_target.ensures.path)
    (c.in_ok-extend_from_slice-3.ensures.items ∙ ap (λ q. c.push_path.new.text.items ++ q)
    c.cut_target.ensures.query)
    (search rules) (search rules) (search rules)
