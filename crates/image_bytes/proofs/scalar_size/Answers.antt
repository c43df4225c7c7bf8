use Rattle.image_bytes.proofs.scalar_size.Goals as goal
