use Rattle.std.proofs.Common.{◌≡◌, ◌+◌, ◌*◌, ◌<◌, ◌++◌, ◌∷◌, [], List, length, map, min, refl, sym, ap, ◌∙◌, arith}
use Rattle.std.proofs.lemmas.List.Elements.{All-push}
use Rattle.std.proofs.lemmas.List.FromFn.{length-map-range_with_len, map-range_with_len_more}
use Rattle.std.specs.List.{range_with_len}
use Rattle.mt_cover.specs.Layer.{IsLayerKept}
use Rattle.mt_cover.specs.declared.sliced.Slice.{Slice}
use Rattle.mt_cover.specs.Sliced.{slice_in}
use Rattle.mt_cover.proofs.Cut.{box_is}
use Rattle.mt_cover.proofs.Fronts.{front_kept}
use Rattle.mt_cover.proofs.Numbers.{half_is}
use Rattle.mt_cover.proofs.walk.front.Goals as goal

pub loop-slice-preserved : goal.loop-slice-preserved
loop-slice-preserved c =
    let start = c.start-start.ensures in
    let end = c.end-end.ensures.end in
    let rows = c.segments-segments.ensures.are.rows in
    let from : c.start-start.result + 128 * c.loop-slice.slice ≡ c.args.strand.now.start + 128 * c.loop-slice.slice = omega (arith, start) in
    let some : c.start-start.result + 128 * c.loop-slice.slice < c.end-end.result = omega (arith, c.requires.few, start, end, c.loop-slice-test.true) in
    let whole = rw start at c.gather-gathered.ensures.is in
    let box = box_is c.args.rules.now c.args.strand.now _ c.loop-slice.slice c.end-end.result (c.args.strand.now.start + 128 * c.loop-slice.slice) c.min-until.result
    c.gather-gathered.result.bounds rows end refl (rw start at c.min-until.ensures) (omega (arith, from, some)) whole in
    let next : c.min-until.result ≡ min c.end-end.result (c.start-start.result + 128 * (c.loop-slice.slice + 1)) = omega (arith, c.min-until.ensures) in
    let cut = slice_in c.args.rules.now c.args.strand.now in
    let made = rw (half_is _ c.half-half.ensures.kept, c.half-half.ensures.is) at c.slice_around.ensures.is in
    let own : c.slice_around.result ≡ cut c.loop-slice.slice = made ∙ sym box in
    let items : c.push.new.self.items ≡ c.loop-slice.list.items ++ c.slice_around.result ∷ [] = c.in_ok-push.ensures.items in
    record {
      stands = rw (← next) c.gather-gathered.ensures.stands;
      is = items ∙ ap (λ (list : List Slice). list ++ c.slice_around.result ∷ []) c.loop-slice.invariant.is
          ∙ ap (λ (slice : Slice). map cut (range_with_len 0 c.loop-slice.slice) ++ slice ∷ []) own
          ∙ sym (map-range_with_len_more cut 0 c.loop-slice.slice c.loop-slice.slice (omega arith));
      each = rw items (All-push (λ (slice : Slice). IsLayerKept slice.layer) c.loop-slice.list.items c.slice_around.result c.loop-slice.invariant.each c.slice_around.ensures.kept);
    }

pub invariant_of-result : goal.invariant_of-result
invariant_of-result c =
    let cut = slice_in c.args.rules.now c.args.strand.now in
    let all : c.loop-slice.slice ≡ c.args.number = omega (arith, c.loop-slice.auto.slice-end, c.loop-slice-test.false) in
    let number : length c.loop-slice.list.items ≡ c.args.number = ap length c.loop-slice.invariant.is ∙ length-map-range_with_len cut 0 c.loop-slice.slice ∙ all in
    front_kept c.args.strand.now (record { from = c.start-start.result; to = c.min.result; rvsm = c.rvsm.result; list = c.loop-slice.list.items }) c.args.number
    c.requires.few c.end-end.ensures.kept c.start-start.ensures (rw (c.start-start.ensures, c.end-end.ensures.end) at c.min.ensures) number c.loop-slice.invariant.each
