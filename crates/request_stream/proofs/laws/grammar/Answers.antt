use Rattle.request_stream.proofs.laws.grammar.Goals as goal

pub returns : goal.returns
returns c = record {
  no_end = c.one_end.ensures.empty;
  end_within = c.one_end.ensures.within;
  end_settled = c.one_end.ensures.settled;
  no_body = λ limits. c.one_front.ensures.empty limits.max_body limits.max_head;
  body_within = λ limits. c.one_front.ensures.within limits.max_body limits.max_head;
  body_settled = λ limits. c.one_front.ensures.settled limits.max_body limits.max_head;
}
