use Rattle.mt_session.proofs.over_link.serve_link.Goals as goal

-- to shut the link changes nothing of what was read, written and counted
pub returns-clause-session : goal.returns-clause-session
returns-clause-session g c =
    let bytes = g.met.L.Duplex.shutting_keeps_bytes _ _ c.shut.ensures in
    let counts = g.met.L.Duplex.shutting_keeps_counts _ _ c.shut.ensures in
    rw (bytes.0, bytes.1, counts.0, counts.1) c.answer_link-board.ensures.session
