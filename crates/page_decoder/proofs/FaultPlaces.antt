-- The faults of a library's files stand in its files.
use Rattle.std.proofs.Common.{◌≡◌, ◌<◌, ℕ, zero, suc, Option, Some, None, List, length, sym, ap, subst}
use Rattle.djvu_base.specs.declared.faults.Fault.{Fault}
use Rattle.djvu_base.specs.Library.{Library}
use Rattle.zp_table.specs.declared.rows.Row.{Row}
use Rattle.include_graph.specs.declared.verdicts.Verdict.{Verdict}
use Rattle.include_graph.specs.declared.verdicts.Verdict.TheVariants as verdict
use Rattle.include_graph.specs.Verdicts.{verdict_of}
use Rattle.bit_plane.specs.Pixels.{Pixels}
use Rattle.page_decoder.specs.Results.{Result, result_of}
use Rattle.page_decoder.specs.Results as result
use Rattle.page_decoder.specs.Given.{Included, Given}
use Rattle.page_decoder.specs.PageRead.{Ending, Finished, Refused, NeedBytes, NeedOutline, NeedFile, Decoded, in_force}
use Rattle.page_decoder.specs.Read.{FileDone, read, result_by}
use Rattle.page_decoder.specs.Libraries.{names_in, graph_of, given_in, res, res_of, result_where, run_given, run_end}
use Rattle.page_decoder.proofs.GoingOn.{length_names}

-- the law of faults
abbrev pub FaultsBelow : Type 0
FaultsBelow = (given : Given) (fault : Fault) → given.home.file < length given.home.names
    → ((file : ℕ) (other : Fault) → file < length given.home.names → given.known.results file ≡ Some (result.Refused other) → other.place.file
    < length given.home.names)
    → (read given).end ≡ Refused fault → fault.place.file < length given.home.names

result_fault : (found : Option (List Pixels)) (fault : Fault) → result_of found ≡ result.Refused fault → ⊥
result_fault (Some shapes) fault e = cc
result_fault None fault e = cc

end_by : (end : Ending) (decoded : Decoded) (fault : Fault) → result_by end decoded ≡ result.Refused fault → end ≡ Refused fault
end_by Finished decoded fault e = absurd (result_fault (in_force decoded) fault e)
end_by (Refused other) decoded fault e =
    let both : result.Refused other ≡ result.Refused fault = e in
    let same : other ≡ fault = cc in ap Refused same
end_by NeedBytes decoded fault e = absurd (cc)
end_by (NeedOutline file) decoded fault e = absurd (cc)
end_by (NeedFile file) decoded fault e = absurd (cc)

some_result : (a b : Result) → Some a ≡ Some b → a ≡ b
some_result a b e = let same : Some a ≡ Some b = e in cc

where_result : (v : Verdict) (done : FileDone) (fault : Fault) → result_where v done ≡ Some (result.Refused fault) → done.result ≡ result.Refused fault
where_result (verdict.Files files) done fault e = some_result done.result (result.Refused fault) e
where_result (verdict.NeedOutline file) done fault e = absurd (cc)
where_result (verdict.Refused other) done fault e = absurd (cc)

module _ (law : FaultsBelow) (table : List Row) (library : Library) where
  res_below : (depth file : ℕ) (fault : Fault) → file < length (names_in library) → (res table library depth file).result ≡ result.Refused fault
      → fault.place.file < length (names_in library)
  res_below zero file fault below e = absurd (cc)
  res_below (suc depth) file fault below e =
      let given = given_in Included table library file (λ other. Some (res table library depth other).result) in
      law given fault below
      (λ other found b s. res_below depth other found b (some_result (res table library depth other).result (result.Refused found) s))
      (end_by (read given).end (read given).left.decoded fault e)

  run_is : (end : Ending) (fault : Fault) → run_end end ≡ Refused fault → end ≡ Refused fault
  run_is Finished fault e = absurd (cc)
  run_is (Refused other) fault e = e
  run_is NeedBytes fault e = absurd (cc)
  run_is (NeedOutline file) fault e = absurd (cc)
  run_is (NeedFile file) fault e = absurd (cc)

  pub run_below : (page : ℕ) (fault : Fault) → page < length library → run_end (read (run_given table library page)).end ≡ Refused fault
      → fault.place.file < length library
  run_below page fault below e =
      let given = run_given table library page in
      subst (λ n. fault.place.file < n) (length_names library)
      (law given fault (subst (λ n. page < n) (sym (length_names library)) below)
      (λ other found b s. res_below (suc (length library)) other found b
      (where_result (verdict_of (graph_of library) other) (res_of table library other) found s))
      (run_is (read given).end fault e))
