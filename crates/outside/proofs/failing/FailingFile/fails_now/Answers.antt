use Rattle.outside.proofs.failing.FailingFile.fails_now.Goals as goal

pub returns-then-fails-clause-named : goal.returns-then-fails-clause-named
returns-then-fails-clause-named c =
    rw (← c.self.view_is, ← c.deref.ensures, ← c.count_up-self-inside.ensures)
    c.names_call-fails.ensures
