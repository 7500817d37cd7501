use Rattle.std.proofs.Common.{leb, ltb, rules, of_calls}
use Rattle.std.proofs.lemmas.List.Sorted.{IsPartitionedBy-leb, IsPartitionedBy-ltb, IsPartitionPoint-from_clause}
use Rattle.std.specs.List.Sorted.{IsNonDecreasingBy}
use Rattle.sheet.specs.declared.parts.Plug.{Plug}
use Rattle.sheet.proofs.Rising.{sheet_rising, Between, ordered, together}
use Rattle.sheet.proofs.sheet.Sheet.taps_of.Goals as goal
use Rattle.sheet.proofs.sheet.Sheet.taps_of.Goals.{After-partition_point-end}

between : (c : After-partition_point-end) → Between c.taps-taps.result.now c.args.unit c.partition_point-start.result c.partition_point-end.result
between c =
    let ps = c.taps-taps.result.now in
    let u = c.args.unit in
    let rising : IsNonDecreasingBy (λ (p : Plug). p.unit) ps = rw c.taps-taps.ensures (sheet_rising c.args.self.now) in
    record {
      within = c.partition_point-start.ensures.bound;
      low = IsPartitionPoint-from_clause (λ (p : Plug). ltb p.unit u) ps _ c.partition_point-start.ensures.partitioned (IsPartitionedBy-ltb (λ (p : Plug). p.unit) ps u rising) (λ a r f k. search (rules, of_calls));
      high = IsPartitionPoint-from_clause (λ (p : Plug). leb p.unit u) ps _ c.partition_point-end.ensures.partitioned (IsPartitionedBy-leb (λ (p : Plug). p.unit) ps u rising) (λ a r f k. search (rules, of_calls));
    }

pub slice_bounds-result-count : goal.slice_bounds-result-count
slice_bounds-result-count c = ordered _ _ _ _ (between (goal.at.slice_bounds-result-count c).After-partition_point-end)

pub slice_bounds-result-start : goal.slice_bounds-result-start
slice_bounds-result-start c = let h = ordered _ _ _ _ (between (goal.at.slice_bounds-result-start c).After-partition_point-end) in search (rules, h)

pub returns : goal.returns
returns c = rw (← c.taps-taps.ensures) (together _ _ _ _ (between (goal.at.returns c).After-partition_point-end))
