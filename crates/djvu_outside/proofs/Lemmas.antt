-- Parts of a run, one after another: what sinks got, and what a meter counted.
use Rattle.std.proofs.Common.{◌≡◌, Result, Ok, Err, IsErr, Option, Some, None, ℕ, ◌+◌, List, [], ◌∷◌, ◌++◌, refl, sym, ap, ◌∙◌, subst, arith, append_assoc}
use Rattle.std.proofs.lemmas.List.{append-nil}
use Rattle.djvu_base.specs.Library.{Library}
use Rattle.djvu_base.specs.Meter.{TicksExactly}
use Rattle.djvu_base.proofs.Ticks.{ticks_none, ticks_both, at_most_none, at_most_after, at_most_more}
use Rattle.djvu_outside.specs.declared.stops.Stop.{Stop}
use Rattle.djvu_outside.specs.declared.stops.Stop.TheVariants as stop
use Rattle.djvu_outside.specs.Cut.{cut}
use Rattle.djvu_outside.specs.Parts.{Delivers, Gives, NeverFolder, SinkStops, Ticks}
use Rattle.djvu_outside.specs.Puts.{Put, Out, Report, to_out, to_report, out_part, report_part, Sinks, sinks, Got, GotPrefix, GivesBoth}
use Rattle.djvu_outside.specs.Reading.{GrowsWithin}

-- what follows what was put before goes on with it
pub grows_after : (before part text rest after : List ℕ) → GrowsWithin (before ++ part) text after → GrowsWithin before (part ++ (text ++ rest)) after
grows_after before part text rest after g = (
  part ++ g.0,
  g.1 ++ rest,
  ap (λ t. part ++ (t ++ rest)) g.2 ∙ ap (λ t. part ++ t) (append_assoc g.0 g.1 rest) ∙ sym (append_assoc part g.0 (g.1 ++ rest)),
  g.3 ∙ append_assoc before part g.0,
)

-- a prefix of the first part is one of the whole text
pub grows_within_more : (before text more after : List ℕ) → GrowsWithin before text after → GrowsWithin before (text ++ more) after
grows_within_more before text more after g = (g.0, g.1 ++ more, ap (λ t. t ++ more) g.2 ∙ append_assoc g.0 g.1 more, g.3)

-- all of a text is a prefix of it
pub whole_grows : (before text after : List ℕ) → after ≡ before ++ text → GrowsWithin before text after
whole_grows before text after e = (text, [], sym (append-nil text), e)

-- and so is nothing
pub none_grows : (before text : List ℕ) → GrowsWithin before text before
none_grows before text = ([], text, refl, sym (append-nil before))

-- a text after one that was put
pub delivers_after : {T : Type 0} (result : Result T Stop) (before part mid text after : List ℕ) → mid ≡ before ++ part → Delivers result mid text after →
    Delivers result before (part ++ text) after
delivers_after (Ok value) before part mid text after e d = d ∙ ap (λ l. l ++ text) e ∙ append_assoc before part text
delivers_after (Err stop) before part mid text after e d =
    let g = grows_after before part text [] after (subst (λ b. GrowsWithin b text after) e d) in
    subst (λ t. GrowsWithin before (part ++ t) after) (append-nil text) g

-- nothing is put where there is nothing to put
pub nothing_put : {T : Type 0} (result : Result T Stop) (before : List ℕ) → Delivers result before [] before
nothing_put (Ok value) before = sym (append-nil before)
nothing_put (Err stop) before = none_grows before []

pub gives_same : {T : Type 0} (result : Result T Stop) (old new : Option (List ℕ)) (text other : List ℕ) → text ≡ other → Gives result old new text →
    Gives result old new other
gives_same {T = T} result old new text other e g = subst (λ t. Gives {T = T} result old new t) e g

-- a part that stops and puts nothing
pub gives_none : {T : Type 0} (result : Result T Stop) (fault : Stop) (told : Option (List ℕ)) (text : List ℕ) → result ≡ Err fault →
    Gives result told told text
gives_none {T = T} result fault told text e = subst (λ r. Gives {T = T} r told told text) (sym e) (λ before given. (before, given, none_grows before text))

-- what stops before further text gave a prefix of it all
pub gives_more : {T : Type 0} (result : Result T Stop) → IsErr result → (old new : Option (List ℕ)) (text more : List ℕ) → Gives result old new text →
    Gives result old new (text ++ more)
gives_more (Ok value) is_err old new text more g = absurd (cc)
gives_more (Err stop) is_err old new text more g = λ before given. let there = g before given in
    (there.0, there.1, grows_within_more before text more there.0 there.2)

pub never_folder : {T : Type 0} (result : Result T Stop) (fault : Stop) → NeverFolder result → result ≡ Err fault → (fault ≡ stop.Folder → ⊥)
never_folder {T = T} result fault h e f = subst (λ r. NeverFolder {T = T} r) (e ∙ ap Err f) h

pub sink_only : {T : Type 0} (result : Result T Stop) (before after : ℕ) → SinkStops result before after → (result ≡ Err stop.Folder → ⊥)
sink_only {T = T} result before after h e = subst (λ r. SinkStops {T = T} r before after) e h

-- work after work that was counted
pub ticks_after : {T : Type 0} (result : Result T Stop) (first last before mid after : ℕ) → TicksExactly first before mid → Ticks result last mid after →
    Ticks result (first + last) before after
ticks_after (Ok value) first last before mid after e t = ticks_both first last before mid after e t
ticks_after (Err stop) first last before mid after e t = at_most_after first last before mid after e t

-- a part that stopped before further work
pub ticks_before : {T : Type 0} (result : Result T Stop) (work more before after : ℕ) → IsErr result → Ticks result work before after →
    Ticks result (work + more) before after
ticks_before (Ok value) work more before after is_err t = absurd (cc)
ticks_before (Err stop) work more before after is_err t = at_most_more work (work + more) before after (omega arith) t

pub ticks_of : {T : Type 0} (result : Result T Stop) (work other before after : ℕ) → work ≡ other → Ticks result work before after →
    Ticks result other before after
ticks_of {T = T} result work other before after e t = subst (λ n. Ticks {T = T} result n before after) e t

-- a part that ticks nothing
pub no_ticks : {T : Type 0} (result : Result T Stop) (work count : ℕ) → work ≡ 0 → Ticks result work count count
no_ticks (Ok value) work count e = subst (λ n. TicksExactly n count count) (sym e) (ticks_none count)
no_ticks (Err stop) work count e = at_most_none work count

-- a part that stopped before its work
pub stopped_before : {T : Type 0} (result : Result T Stop) (work count : ℕ) → IsErr result → Ticks result work count count
stopped_before (Ok value) work count is_err = absurd (cc)
stopped_before (Err stop) work count is_err = at_most_none work count

-- where nothing failed, no file is cut
pub nothing_cut : (library : Library) → cut [] library ≡ library
nothing_cut [] = refl
nothing_cut (file ∷ library) = ap (λ l. file ∷ l) (nothing_cut library)

out_append : (a b : List Put) → out_part (a ++ b) ≡ out_part a ++ out_part b
out_append [] b = refl
out_append (Out byte ∷ a) b = ap (λ l. byte ∷ l) (out_append a b)
out_append (Report byte ∷ a) b = out_append a b

report_append : (a b : List Put) → report_part (a ++ b) ≡ report_part a ++ report_part b
report_append [] b = refl
report_append (Out byte ∷ a) b = report_append a b
report_append (Report byte ∷ a) b = ap (λ l. byte ∷ l) (report_append a b)

-- each sink's part of what is put into one of them
pub out_of_out : (bytes : List ℕ) → out_part (to_out bytes) ≡ bytes
out_of_out [] = refl
out_of_out (byte ∷ bytes) = ap (λ l. byte ∷ l) (out_of_out bytes)

report_of_out : (bytes : List ℕ) → report_part (to_out bytes) ≡ []
report_of_out [] = refl
report_of_out (byte ∷ bytes) = report_of_out bytes

out_of_report : (bytes : List ℕ) → out_part (to_report bytes) ≡ []
out_of_report [] = refl
out_of_report (byte ∷ bytes) = out_of_report bytes

report_of_report : (bytes : List ℕ) → report_part (to_report bytes) ≡ bytes
report_of_report [] = refl
report_of_report (byte ∷ bytes) = ap (λ l. byte ∷ l) (report_of_report bytes)

to_out_append : (a b : List ℕ) → to_out (a ++ b) ≡ to_out a ++ to_out b
to_out_append [] b = refl
to_out_append (byte ∷ a) b = ap (λ l. Out byte ∷ l) (to_out_append a b)

to_report_append : (a b : List ℕ) → to_report (a ++ b) ≡ to_report a ++ to_report b
to_report_append [] b = refl
to_report_append (byte ∷ a) b = ap (λ l. Report byte ∷ l) (to_report_append a b)

-- sinks that got nothing
pub got_none : (told : Sinks) → Got [] told told
got_none told = record {
  out = λ bytes given. given ∙ ap Some (sym (append-nil bytes));
  report = λ bytes given. given ∙ ap Some (sym (append-nil bytes));
}

-- puts after others
pub got_both : (a b : List Put) (first mid last : Sinks) → Got a first mid → Got b mid last → Got (a ++ b) first last
got_both a b first mid last g h = record {
  out = λ bytes given. h.out (bytes ++ out_part a) (g.out bytes given)
      ∙ ap Some (append_assoc bytes (out_part a) (out_part b) ∙ ap (λ l. bytes ++ l) (sym (out_append a b)));
  report = λ bytes given. h.report (bytes ++ report_part a) (g.report bytes given)
      ∙ ap Some (append_assoc bytes (report_part a) (report_part b) ∙ ap (λ l. bytes ++ l) (sym (report_append a b)));
}

-- the puts of a part after those of another
pub puts_after : {T : Type 0} (result : Result T Stop) (a b : List Put) (first mid last : Sinks) → Got a first mid → GivesBoth result b mid last →
    GivesBoth result (a ++ b) first last
puts_after (Ok value) a b first mid last g h = got_both a b first mid last g h
puts_after (Err stop) a b first mid last g h = record {
  part = a ++ h.part;
  rest = h.rest;
  puts_are = ap (λ l. a ++ l) h.puts_are ∙ sym (append_assoc a h.part h.rest);
  got = got_both a h.part first mid last g h.got;
}

-- what stops before further puts gave a prefix of them all
pub puts_more : {T : Type 0} (result : Result T Stop) (puts more : List Put) (before after : Sinks) → IsErr result → GivesBoth result puts before after →
    GivesBoth result (puts ++ more) before after
puts_more (Ok value) puts more before after is_err g = absurd (cc)
puts_more (Err stop) puts more before after is_err g = record {
  part = g.part;
  rest = g.rest ++ more;
  puts_are = ap (λ l. l ++ more) g.puts_are ∙ append_assoc g.part g.rest more;
  got = g.got;
}

pub puts_same : {T : Type 0} (result : Result T Stop) (puts other : List Put) (before after : Sinks) → puts ≡ other → GivesBoth result puts before after →
    GivesBoth result other before after
puts_same {T = T} result puts other before after e g = subst (λ p. GivesBoth {T = T} result p before after) e g

-- where nothing is to be put, nothing was
pub puts_nothing : {T : Type 0} (result : Result T Stop) (told : Sinks) → GivesBoth result [] told told
puts_nothing (Ok value) told = got_none told
puts_nothing (Err stop) told = record { part = []; rest = []; puts_are = refl; got = got_none told }

-- a part that stops before its puts
pub stops_first : (puts : List Put) (told : Sinks) → GotPrefix puts told told
stops_first puts told = record { part = []; rest = puts; puts_are = refl; got = got_none told }

-- all puts are a prefix of themselves
pub all_got : (puts : List Put) (before after : Sinks) → Got puts before after → GotPrefix puts before after
all_got puts before after g = record { part = puts; rest = []; puts_are = sym (append-nil puts); got = g }

-- a text that was given to one sink, as puts of both
pub puts_out : {T : Type 0} (result : Result T Stop) (old new report : Option (List ℕ)) (text : List ℕ) → Gives result old new text →
    GivesBoth result (to_out text) (sinks old report) (sinks new report)
puts_out (Ok value) old new report text g = record {
  out = λ bytes given. let there = g bytes given in there.1 ∙ ap Some (there.2 ∙ ap (λ l. bytes ++ l) (sym (out_of_out text)));
  report = λ bytes given. given ∙ ap Some (sym (ap (λ l. bytes ++ l) (report_of_out text) ∙ append-nil bytes));
}
puts_out (Err stop) None new report text g = record {
  part = [];
  rest = to_out text;
  puts_are = refl;
  got = record { out = λ bytes given. cc; report = λ bytes given. given ∙ ap Some (sym (append-nil bytes)) };
}
puts_out (Err stop) (Some before) new report text g =
    let there = g before refl in
    record {
      part = to_out there.2.0;
      rest = to_out there.2.1;
      puts_are = ap to_out there.2.2 ∙ to_out_append there.2.0 there.2.1;
      got = record {
        out = λ bytes given. let same : before ≡ bytes = cc in
            there.1 ∙ ap Some (there.2.3 ∙ ap (λ l. l ++ there.2.0) same ∙ ap (λ l. bytes ++ l) (sym (out_of_out there.2.0)));
        report = λ bytes given. given ∙ ap Some (sym (ap (λ l. bytes ++ l) (report_of_out there.2.0) ∙ append-nil bytes));
      };
    }

pub puts_report : {T : Type 0} (result : Result T Stop) (old new out : Option (List ℕ)) (text : List ℕ) → Gives result old new text →
    GivesBoth result (to_report text) (sinks out old) (sinks out new)
puts_report (Ok value) old new out text g = record {
  out = λ bytes given. given ∙ ap Some (sym (ap (λ l. bytes ++ l) (out_of_report text) ∙ append-nil bytes));
  report = λ bytes given. let there = g bytes given in there.1 ∙ ap Some (there.2 ∙ ap (λ l. bytes ++ l) (sym (report_of_report text)));
}
puts_report (Err stop) None new out text g = record {
  part = [];
  rest = to_report text;
  puts_are = refl;
  got = record { out = λ bytes given. given ∙ ap Some (sym (append-nil bytes)); report = λ bytes given. cc };
}
puts_report (Err stop) (Some before) new out text g =
    let there = g before refl in
    record {
      part = to_report there.2.0;
      rest = to_report there.2.1;
      puts_are = ap to_report there.2.2 ∙ to_report_append there.2.0 there.2.1;
      got = record {
        out = λ bytes given. given ∙ ap Some (sym (ap (λ l. bytes ++ l) (out_of_report there.2.0) ∙ append-nil bytes));
        report = λ bytes given. let same : before ≡ bytes = cc in
            there.1 ∙ ap Some (there.2.3 ∙ ap (λ l. l ++ there.2.0) same ∙ ap (λ l. bytes ++ l) (sym (report_of_report there.2.0)));
      };
    }
