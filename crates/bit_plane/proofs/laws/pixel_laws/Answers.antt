use Rattle.bit_plane.proofs.PixelLemmas.{black_where, whole_where}
use Rattle.bit_plane.proofs.PixelLaws.{blank_is, set_is_black, painted_is_black, same_plane}
use Rattle.bit_plane.proofs.laws.pixel_laws.Goals as goal

pub returns-clause-made : goal.returns-clause-made
returns-clause-made c = λ width height x y test p q. black_where width height test x y p q

pub returns-clause-blank : goal.returns-clause-blank
returns-clause-blank c = blank_is

pub returns-clause-set : goal.returns-clause-set
returns-clause-set c = set_is_black

pub returns-clause-painted : goal.returns-clause-painted
returns-clause-painted c = painted_is_black

pub returns-clause-whole : goal.returns-clause-whole
returns-clause-whole c = whole_where

pub returns-clause-same : goal.returns-clause-same
returns-clause-same c = same_plane
