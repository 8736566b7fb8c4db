use Rattle.query_parser.proofs.modules.+read.Given as goal

abbrev pub decreases-read : goal.decreases-read
decreases-read l = l.depth
