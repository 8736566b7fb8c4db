-- Known lines, computed by the definitions.
use Rattle.std.proofs.Common.{◌≡◌, [], refl, codes}
use Rattle.std.specs.Fmt.{digits}
use Rattle.line_maker.specs.Lines.{line, made_lines}

no_lines : made_lines 7 0 ≡ []
no_lines = refl

two_lines : made_lines 1 2 ≡ codes "{\"id\":1,\"k\":\"g2\",\"v\":168.38}\n{\"id\":2,\"k\":\"g1\",\"v\":57.58}\n"
unfolding digits
two_lines = refl

array : line 9 16212 ≡ codes "[16212]\n"
unfolding digits
array = refl

two_digits : line 10 32705 ≡ codes "{\"id\":10,\"k\":\"g2\",\"v\":327.05}\n"
unfolding digits
two_digits = refl
