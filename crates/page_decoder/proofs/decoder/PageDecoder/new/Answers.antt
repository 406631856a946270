use Rattle.std.proofs.Common.{None, ap, ◌∙◌, length, refl}
use Rattle.std.specs.Arc.{arc_value}
use Rattle.page_decoder.specs.Given.{Home, Known}
use Rattle.page_decoder.specs.PageFed.{Fed}
use Rattle.page_decoder.proofs.Reached.{first_home, new_fed}
use Rattle.page_decoder.proofs.decoder.PageDecoder.new.Goals as goal

abbrev nothing_known : Known
nothing_known = record { outlines = λ file. None; results = λ file. None }

pub invariant_of-result : goal.invariant_of-result
unfolding Fed
invariant_of-result c =
    rw (c.new-2.ensures, c.new-3.ensures) (record {
      is_page = ap (λ (h : Home). h.role)
          (first_home (arc_value c.args.table) (arc_value c.args.names) c.args.file c.new.result 0 c.new.ensures.stands nothing_known);
      ascending = c.requires.ascending;
      few = c.requires.few;
      places = ap length (c.slice-count.ensures ∙ c.deref.ensures);
      given = _;
      fed = new_fed (arc_value c.args.table) (arc_value c.args.names) c.args.file c.new.result _ c.new.ensures.stands nothing_known
          (record { outlines = λ file. refl; results = λ file. refl }) c.new.ensures.drawn c.new.ensures.decisions c.new.ensures.layers;
    })

pub returns-clause-fed : goal.returns-clause-fed
unfolding Fed
returns-clause-fed c known nothing =
    rw (c.new-2.ensures, c.new-3.ensures)
    (new_fed (arc_value c.args.table) (arc_value c.args.names) c.args.file c.new.result _ c.new.ensures.stands known nothing c.new.ensures.drawn
    c.new.ensures.decisions c.new.ensures.layers)

pub returns-clause-home : goal.returns-clause-home
returns-clause-home c =
    first_home (arc_value c.args.table) (arc_value c.args.names) c.args.file c.new.result 0 c.new.ensures.stands nothing_known
