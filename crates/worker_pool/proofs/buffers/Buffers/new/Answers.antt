use Rattle.worker_pool.proofs.buffers.Buffers.new.Goals as goal

pub returns : goal.returns
returns g c = record {
  queues = c.in_ok-linked_queues.ensures;
  spare = (c.in_ok-with_capacity.ensures.items, c.in_ok-with_capacity.ensures.capacity);
  team = (c.in_ok-with_capacity-2.ensures.items, c.in_ok-with_capacity-2.ensures.capacity);
  workers = (c.in_ok-with_capacity-3.ensures.items, c.in_ok-with_capacity-3.ensures.capacity);
  answers = (c.in_ok-with_capacity-4.ensures.items, c.in_ok-with_capacity-4.ensures.capacity);
}
