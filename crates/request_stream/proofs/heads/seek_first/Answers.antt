use Rattle.request_stream.proofs.heads.seek_first.Goals as goal

pub end_within-requires-clause-none : goal.end_within-requires-clause-none
end_within-requires-clause-none g c = c.requires.none
